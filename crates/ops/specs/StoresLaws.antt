-- Runs of numbers stored one after the other.
-- Assumes nothing.
use Rattle.std.specs.Prelude.{ℕ, suc, ◌+◌, ◌≡◌, refl, List, [], ◌∷◌, ◌++◌, length, set}
use Rattle.std.proofs.Common.{ap, ◌∙◌, subst, arith, length-append}
use Rattle.std.proofs.lemmas.List.Edits.{sets}
use Rattle.std.proofs.Math.Seq.{length-sets}
use Rattle.ops.specs.Stores.{Stored}

-- whoever goes on at j, where the first run ends, makes one longer run of both
resume : (a b l : List ℕ) (i j : ℕ) → j ≡ i + length a → sets (sets l i a) j b ≡ sets l i (a ++ b)
resume [] b l i j e =
    let start : j ≡ i = omega arith in
    rw start
resume (x ∷ a) b l i j e = resume a b (set l i x) (suc i) j (omega arith)

infixl 60 ◌then◌
pub ◌then◌ : {l l₁ l₂ : List ℕ} {i j k : ℕ} {a b : List ℕ} → Stored l i a j l₁ → Stored l₁ j b k l₂ → Stored l i (a ++ b) k l₂
◌then◌ {l} {i = i} {j = j} {a = a} {b = b} first second =
    record {
      end = omega (arith, first.end, second.end, length-append a b);
      list = second.list ∙ rw first.list (resume a b l i j first.end);
    }

pub nothing : (l : List ℕ) (i : ℕ) → Stored l i [] i l
nothing l i = record { end = omega arith; list = refl }

-- a run of one number
pub one : (l : List ℕ) (at x : ℕ) → Stored l at (x ∷ []) (at + 1) (set l at x)
one l at x = record { list = refl; end = refl }

-- the number behind a run of k
pub next : {l l' : List ℕ} {at : ℕ} {a : List ℕ} (k x : ℕ) → Stored l at a (at + k) l'
    → Stored l at (a ++ (x ∷ [])) (at + (k + 1)) (set l' (at + k) x)
next {l' = l'} {at = at} k x run =
    let e : at + (k + 1) ≡ at + k + 1 = omega arith in
    rw e (run then one l' (at + k) x)

pub stored_length : {l l' : List ℕ} {i k : ℕ} {a : List ℕ} → Stored l i a k l' → length l' ≡ length l
stored_length {l} {l'} {i} {k} {a} p = ap length p.list ∙ length-sets l i a

-- what was stored, said otherwise
pub stored_same : {l l' : List ℕ} {i k : ℕ} {a b : List ℕ} → a ≡ b → Stored l i a k l' → Stored l i b k l'
stored_same {l} {l'} {i} {k} e p = subst (λ (v : List ℕ). Stored l i v k l') e p
