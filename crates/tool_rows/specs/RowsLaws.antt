-- The name of a number.
-- Assumes nothing.
use Rattle.std.specs.Prelude.{ℕ, zero, suc, ◌+◌, ◌≤◌, ◌<◌, ◌≡◌, refl, Bool, true, false, List, [], ◌∷◌, T, ltb, leb, length, get_or, Option, unwrap_or}
use Prim.Native.String.{String}
use Rattle.std.specs.Borrow.{Bor}
use Rattle.std.specs.Str.{bytes_eq}
use Rattle.std.proofs.Common.{◌∙◌, arith, ltb→lt, leb→le, ne_eqb}
use Rattle.std.proofs.lemmas.Slice.Eq.{bytes_eq-Decides}
use Rattle.std.proofs.Math.Facts.{and_yes}
use Rattle.tool_rows.specs.Bytes.{room, bytes, name_of}
use Rattle.tool_rows.specs.Rows.{name_at, all_below, right, roomy}

T-to-true : (b : Bool) → T b → b ≡ true
T-to-true true t = refl
T-to-true false t = absurd t

nameless : (n m : ℕ) (names : List (ℕ × String)) → T (all_below n names) → n ≤ m → name_of m names ≡ ""
nameless n m [] t h = refl
nameless n m ((k, name) ∷ names) t h =
    let p = and_yes (ltb k n) (all_below n names) t in
    let k< : k < n = ltb→lt k n p.0 in
    rw (ne_eqb m k (λ e. omega arith)) (nameless n m names p.1 h)

-- the test of a table, by its first name and the others
parted : (names : List (ℕ × String)) (name : Bor (List ℕ)) (rows : List (Bor (List ℕ))) (i : ℕ) →
    T (right names i (name ∷ rows)) → T (bytes_eq name.now (bytes (name_of i names))) × T (right names (suc i) rows)
parted names name rows i t = and_yes (bytes_eq name.now (bytes (name_of i names))) (right names (suc i) rows) t

-- what the test of a table from number i on shows of its number k
pub named_at : (names : List (ℕ × String)) (rows : List (Bor (List ℕ))) (i k : ℕ) →
    T (right names i rows) → name_at rows k ≡ bytes (name_of (i + k) names)
unfolding name_at
named_at names [] i k t = rw (nameless i (i + k) names t (omega arith)) refl
named_at names (name ∷ rows) i zero t =
    let e : i + 0 ≡ i = omega arith in
    rw e ((bytes_eq-Decides name.now (bytes (name_of i names))).0 (T-to-true _ (parted names name rows i t).0))
named_at names (name ∷ rows) i (suc k) t =
    let e : i + suc k ≡ suc i + k = omega arith in
    rw e (named_at names rows (suc i) k (parted names name rows i t).1)

-- and what that of its room shows
pub room_at : (rows : List (Bor (List ℕ))) (k : ℕ) → T (roomy rows) → length (name_at rows k) ≤ room
unfolding name_at
room_at [] k t = omega arith
room_at (name ∷ rows) zero t = leb→le (length name.now) room (and_yes (leb (length name.now) room) (roomy rows) t).0
room_at (name ∷ rows) (suc k) t = room_at rows k (and_yes (leb (length name.now) room) (roomy rows) t).1

pub right_at : (names : List (ℕ × String)) (rows : List (Bor (List ℕ))) (i k : ℕ) →
    T (right names i rows) → T (roomy rows) → (name_at rows k ≡ bytes (name_of (i + k) names)) × (length (name_at rows k) ≤ room)
right_at names rows i k t r = (named_at names rows i k t, room_at rows k r)

-- what the tests of a whole table show of a name that was looked up in it
pub table_named : (name : List ℕ) (n : ℕ) (names : List (ℕ × String)) (rows : List (Bor (List ℕ))) →
    name ≡ name_at rows n → T (right names 0 rows) → T (roomy rows) → (name ≡ bytes (name_of n names)) × (length name ≤ room)
table_named name n names rows e t f =
    let e0 : 0 + n ≡ n = omega arith in
    let r = right_at names rows 0 n t f in
    (e ∙ rw e0 at r.0, rw (← e) at r.1)

-- a name that was looked up, or none past the table's end
found_or_none : (rows : List (Bor (List ℕ))) (n : ℕ) (none : Bor (List ℕ)) → none.now ≡ [] → (get_or rows n none).now ≡ name_at rows n
unfolding name_at
found_or_none [] n none h = h
found_or_none (name ∷ rows) zero none h = refl
found_or_none (name ∷ rows) (suc n) none h = found_or_none rows n none h

pub looked_up : (rows : List (Bor (List ℕ))) (n : ℕ) (found copied : Option (Bor (List ℕ))) (name none : Bor (List ℕ)) →
    copied ≡ found → name ≡ unwrap_or copied none → ((d : Bor (List ℕ)) → unwrap_or found d ≡ get_or rows n d) → none.now ≡ [] →
    name.now ≡ name_at rows n
looked_up rows n found copied name none c u at h =
    let e : name ≡ get_or rows n none = u ∙ rw c (at none) in
    rw e (found_or_none rows n none h)
