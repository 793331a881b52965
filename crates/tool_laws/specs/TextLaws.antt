-- Text stored in a buffer.
-- Assumes nothing.
use Rattle.std.specs.Prelude.{ℕ, ◌+◌, ◌-◌, ◌≤◌, ◌≡◌, List, [], ◌++◌, length, take, drop}
use Rattle.std.proofs.Common.{sym, append_assoc, append-nil, arith, length-drop, drop_of_length-le, take_all, drop-drop}
use Rattle.std.proofs.Math.Seq.{take-length}
use Rattle.std.proofs.lemmas.List.Edits.{sets-eq}
use borrow.Rule.Slice.PartMut.{mid_of, put_mid}
use Rattle.io.specs.Digits.{last_digits, IsDigitCount}
use Rattle.ops.specs.Stores.{Stored}
use Rattle.ops.specs.StoresLaws.{stored_same}
use Rattle.tool_laws.specs.Text.{NumberStored}

-- bytes at the start of the part of a buffer from `at` on are bytes of the buffer at `at`
pub part_stored : (l a y : List ℕ) (at r : ℕ) → at + length a ≤ length l → r ≡ length a → y ≡ take (length a) a ++ drop (length a) (mid_of at (length l - at) l)
    → Stored l at a (at + r) (put_mid at (length l - at) l y)
part_stored l a y at r h e q =
    let rest : length (drop at l) ≤ length l - at = omega (arith, length-drop at l) in
    let whole : take (length l - at) (drop at l) ≡ drop at l = take_all (length l - at) (drop at l) rest in
    let none : drop (length l - at) (drop at l) ≡ [] = drop_of_length-le (drop at l) rest in
    let b = drop (at + length a) l in
    record {
      end = rw e;
      list =
          rw (q, whole, none, take-length a, drop-drop (length a) at l, append-nil (a ++ b), sets-eq a l at h) (sym (append_assoc (take at l) a b));
    }

pub number_stored : (l l' a : List ℕ) (at n k r : ℕ) → Stored l at a r l' → a ≡ last_digits 10 k n → length a ≡ k → IsDigitCount 10 1 n k → NumberStored l at n r l'
number_stored l l' a at n k r s e h few =
    let count : r - at ≡ k = omega (arith, s.end, h) in
    record { fewest = rw count few; text = rw count (stored_same e s) }
