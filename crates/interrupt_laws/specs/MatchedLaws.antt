-- A reading of another kind than the awaited one, as the else of a `let .. else` knows it, and what is awaited by its place.
-- Assumes nothing.
use Rattle.std.specs.Prelude.{ℕ, ◌+◌, ◌≤◌, ◌<◌, Bool, true, false, not, cond, List, [], ◌∷◌, ◌≡◌, refl, T, eqb, Option, Some, None}
use Rattle.std.proofs.Common.{subst, ◌∙◌, arith, inl, inr, eqb-true, ne_eqb}
use types.Run.{OneOf, miss}
use mir.Val.{has_key}
use denote.Enum.Declared as D
use Rattle.state.specs.declared.Awaiting.{Awaiting}
use Rattle.state.specs.declared.Awaiting.TheVariants as awaiting
use Rattle.state.specs.declared.Reading.{Reading}
use Rattle.state.specs.declared.LinkFlags.{LinkFlags}
use Rattle.state.specs.declared.LinkStatus.{LinkStatus}
use Rattle.state.specs.declared.TransferStatus.{TransferStatus}
use Rattle.state.specs.declared.Reading.TheVariants as reading
use Rattle.interrupt_readings.specs.Matched.{kind_number}
use Rattle.state.specs.Awaiting.{awaiting_number}
use Rattle.state.specs.contracts.Awaiting as A
use Rattle.state.specs.contracts.Reading as R

abbrev tag : Reading → ℕ
tag r = D.tag_of R.the_type r

-- the kinds are numbered in the sequence of the variants
tag_kind : (r : Reading) → kind_number r ≡ tag r + 1
tag_kind (reading.LinkFlags f) = refl
tag_kind (reading.LinkStatus s) = refl
tag_kind (reading.PortCapability b) = refl
tag_kind (reading.MessageWord w) = refl
tag_kind (reading.TransferStatus t) = refl
tag_kind (reading.SetupBytes b) = refl
tag_kind (reading.Ep0Length n) = refl
tag_kind (reading.Ep0Sequence q) = refl
tag_kind (reading.ChainPackets p) = refl
tag_kind (reading.LastLength n) = refl

-- the numbers of the variants, but for one
abbrev without : ℕ → List ℕ → List ℕ
without k [] = []
without k (n ∷ ns) = cond (eqb n k) ns (n ∷ without k ns)

abbrev pub others : ℕ → List ℕ
others k = without k (0 ∷ 1 ∷ 2 ∷ 3 ∷ 4 ∷ 5 ∷ 6 ∷ 7 ∷ 8 ∷ 9 ∷ [])

pub other_kind : (k : ℕ) (r : Reading) → T (not (has_key (others k) k)) → OneOf (others k) (D.tag_of R.the_type r) → eqb (k + 1) (kind_number r) ≡ false
other_kind k r t n = go (eqb (k + 1) (kind_number r)) refl
  where
    go : (b : Bool) → eqb (k + 1) (kind_number r) ≡ b → b ≡ false
    go false e = refl
    go true e =
        let same : D.tag_of R.the_type r ≡ k = omega (arith, eqb-true (k + 1) (kind_number r) e ∙ tag_kind r) in
        absurd (miss (others k) k t (subst (OneOf (others k)) same n))

-- where nothing is awaited, every reading is another
pub none_wanted : (r : Reading) → eqb 0 (kind_number r) ≡ false
none_wanted r = ne_eqb 0 (kind_number r) (λ q. omega (arith, q ∙ tag_kind r))

-- what is awaited is numbered in the sequence of the variants, behind 0 of nothing
pub tag_nothing : awaiting_number None ≡ 0
tag_nothing = refl

pub tag_place : (next : Awaiting) → awaiting_number (Some next) ≡ D.tag_of A.the_type next + 1
tag_place awaiting.LinkFlags = refl
tag_place awaiting.LinkStatus = refl
tag_place awaiting.PortCapability = refl
tag_place awaiting.TermPresStatus = refl
tag_place awaiting.MessageWord = refl
tag_place awaiting.WarmResetStatus = refl
tag_place awaiting.TransferStatus = refl
tag_place awaiting.SetupBytes = refl
tag_place awaiting.Ep0Length = refl
tag_place awaiting.Ep0Sequence = refl
tag_place awaiting.ChainPackets = refl
tag_place awaiting.LastLength = refl

-- the readings of the transfers come seventh and later, those of the link before them
pub late : (x : ℕ) → OneOf (7 ∷ 8 ∷ 9 ∷ 10 ∷ 11 ∷ 12 ∷ []) x → 6 < x
late x (inl e) = omega (arith, e)
late x (inr (inl e)) = omega (arith, e)
late x (inr (inr (inl e))) = omega (arith, e)
late x (inr (inr (inr (inl e)))) = omega (arith, e)
late x (inr (inr (inr (inr (inl e))))) = omega (arith, e)
late x (inr (inr (inr (inr (inr e))))) = omega (arith, e)

pub early : (x : ℕ) → OneOf (0 ∷ 1 ∷ 2 ∷ 3 ∷ 4 ∷ 5 ∷ 6 ∷ []) x → x ≤ 6
early x (inl e) = omega (arith, e)
early x (inr (inl e)) = omega (arith, e)
early x (inr (inr (inl e))) = omega (arith, e)
early x (inr (inr (inr (inl e)))) = omega (arith, e)
early x (inr (inr (inr (inr (inl e))))) = omega (arith, e)
early x (inr (inr (inr (inr (inr (inl e)))))) = omega (arith, e)
early x (inr (inr (inr (inr (inr (inr e)))))) = omega (arith, e)

-- a reading that no kind's pattern takes is of another kind
pub not_flags : (r : Reading) → ((x : LinkFlags) → r ≡ reading.LinkFlags x → ⊥) → eqb 1 (kind_number r) ≡ false
not_flags (reading.LinkFlags x) h = absurd (h x refl)
not_flags r h = refl

pub not_status : (r : Reading) → ((x : LinkStatus) → r ≡ reading.LinkStatus x → ⊥) → eqb 2 (kind_number r) ≡ false
not_status (reading.LinkStatus x) h = absurd (h x refl)
not_status r h = refl

pub not_capability : (r : Reading) → ((x : Bool) → r ≡ reading.PortCapability x → ⊥) → eqb 3 (kind_number r) ≡ false
not_capability (reading.PortCapability x) h = absurd (h x refl)
not_capability r h = refl

pub not_message : (r : Reading) → ((x : ℕ) → r ≡ reading.MessageWord x → ⊥) → eqb 4 (kind_number r) ≡ false
not_message (reading.MessageWord x) h = absurd (h x refl)
not_message r h = refl

pub not_transfer_status : (r : Reading) → ((x : TransferStatus) → r ≡ reading.TransferStatus x → ⊥) → eqb 5 (kind_number r) ≡ false
not_transfer_status (reading.TransferStatus x) h = absurd (h x refl)
not_transfer_status r h = refl

pub not_setup : (r : Reading) → ((x : List ℕ) → r ≡ reading.SetupBytes x → ⊥) → eqb 6 (kind_number r) ≡ false
not_setup (reading.SetupBytes x) h = absurd (h x refl)
not_setup r h = refl

pub not_length : (r : Reading) → ((x : ℕ) → r ≡ reading.Ep0Length x → ⊥) → eqb 7 (kind_number r) ≡ false
not_length (reading.Ep0Length x) h = absurd (h x refl)
not_length r h = refl

pub not_sequence : (r : Reading) → ((x : ℕ) → r ≡ reading.Ep0Sequence x → ⊥) → eqb 8 (kind_number r) ≡ false
not_sequence (reading.Ep0Sequence x) h = absurd (h x refl)
not_sequence r h = refl

pub not_packets : (r : Reading) → ((x : ℕ) → r ≡ reading.ChainPackets x → ⊥) → eqb 9 (kind_number r) ≡ false
not_packets (reading.ChainPackets x) h = absurd (h x refl)
not_packets r h = refl

pub not_last : (r : Reading) → ((x : ℕ) → r ≡ reading.LastLength x → ⊥) → eqb 10 (kind_number r) ≡ false
not_last (reading.LastLength x) h = absurd (h x refl)
not_last r h = refl

-- what is awaited is a reading of the transfers where it is none of the link's, and the reverse
pub late_by : (n : Option Awaiting) → (n ≡ None → ⊥) → (n ≡ Some awaiting.LinkFlags → ⊥) → (n ≡ Some awaiting.LinkStatus → ⊥) → (n ≡ Some awaiting.PortCapability → ⊥) → (n ≡ Some awaiting.TermPresStatus → ⊥) → (n ≡ Some awaiting.MessageWord → ⊥) → (n ≡ Some awaiting.WarmResetStatus → ⊥) → 6 < awaiting_number n
late_by None h0 h1 h2 h3 h4 h5 h6 = absurd (h0 refl)
late_by (Some awaiting.LinkFlags) h0 h1 h2 h3 h4 h5 h6 = absurd (h1 refl)
late_by (Some awaiting.LinkStatus) h0 h1 h2 h3 h4 h5 h6 = absurd (h2 refl)
late_by (Some awaiting.PortCapability) h0 h1 h2 h3 h4 h5 h6 = absurd (h3 refl)
late_by (Some awaiting.TermPresStatus) h0 h1 h2 h3 h4 h5 h6 = absurd (h4 refl)
late_by (Some awaiting.MessageWord) h0 h1 h2 h3 h4 h5 h6 = absurd (h5 refl)
late_by (Some awaiting.WarmResetStatus) h0 h1 h2 h3 h4 h5 h6 = absurd (h6 refl)
late_by n h0 h1 h2 h3 h4 h5 h6 = omega arith

pub early_by : (n : Option Awaiting) → (n ≡ Some awaiting.TransferStatus → ⊥) → (n ≡ Some awaiting.SetupBytes → ⊥) → (n ≡ Some awaiting.Ep0Length → ⊥) → (n ≡ Some awaiting.Ep0Sequence → ⊥) → (n ≡ Some awaiting.ChainPackets → ⊥) → (n ≡ Some awaiting.LastLength → ⊥) → awaiting_number n ≤ 6
early_by (Some awaiting.TransferStatus) h0 h1 h2 h3 h4 h5 = absurd (h0 refl)
early_by (Some awaiting.SetupBytes) h0 h1 h2 h3 h4 h5 = absurd (h1 refl)
early_by (Some awaiting.Ep0Length) h0 h1 h2 h3 h4 h5 = absurd (h2 refl)
early_by (Some awaiting.Ep0Sequence) h0 h1 h2 h3 h4 h5 = absurd (h3 refl)
early_by (Some awaiting.ChainPackets) h0 h1 h2 h3 h4 h5 = absurd (h4 refl)
early_by (Some awaiting.LastLength) h0 h1 h2 h3 h4 h5 = absurd (h5 refl)
early_by n h0 h1 h2 h3 h4 h5 = omega arith
