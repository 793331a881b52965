-- Over all pieces of a receive, the caller's bytes hold what came, in sequence, and nothing behind it is touched.
-- Assumes nothing.
use Rattle.std.specs.Prelude.{ℕ, ◌+◌, ◌*◌, ◌-◌, ◌/◌, ◌≤◌, ◌<◌, Bool, true, false, ◌||◌, not, cond, List, [], ◌++◌, ◌≡◌, refl, eqb, ltb, length, take, drop}
use Rattle.std.proofs.Common.{append-nil, append_assoc, ap, sym, subst, ◌∙◌, add-zero, le-div_iff_mul-le, mul-le-mul_right, arith, ltb-false, length-append, length-drop, take-append-drop, drop-drop, length-take-le}
use Rattle.std.proofs.lemmas.Bool.{eqb-false}
use Rattle.std.proofs.Math.Seq.{take-append_seam, drop-append_seam, take-append-add}
use Rattle.base.specs.EachLaws.{true_not_false}
use Rattle.state.specs.declared.Slot.{Slot}
use Rattle.state_slots.specs.Slots.{slot_size, own_buffer}
use Rattle.endpoint_parts.specs.Parts.{part, piece_of, put}
use Rattle.endpoint_parts.specs.PartsLaws.{part_whole}
use Rattle.endpoint_choice.specs.declared.Asked.{Asked}
use Rattle.endpoint_choice.specs.Choice.{place, rest, place_after, own_room, receive_direct, receive_room}
use Rattle.endpoint_choice.specs.ChoiceLaws.{receive_reached}
use Rattle.endpoint_answer.specs.declared.Move.TheVariants as move
use Rattle.endpoint_received.specs.Received.{received_next}
use Rattle.endpoint_laws.specs.Sends.{together}
use Rattle.endpoint_laws.specs.SendLaws.{told, goes_on}
use Rattle.endpoint_laws.specs.Receives.{stored, Receives, nothing, then}

-- bytes stored at a place: those before it stay, they stand there, and those behind them stay
module _ (l p : List ℕ) (at : ℕ) (fits : at + length p ≤ length l) where
  front_long : length (take at l) ≡ at
  front_long = length-take-le at l (omega arith)

  pub put_before : take at (put l at p) ≡ take at l
  put_before = rw front_long at (take-append_seam (take at l) (p ++ drop (at + length p) l))

  behind : drop at (put l at p) ≡ p ++ drop (at + length p) l
  behind = rw front_long at (drop-append_seam (take at l) (p ++ drop (at + length p) l))

  pub put_there : part (put l at p) at (length p) ≡ p
  put_there = rw behind (take-append_seam p (drop (at + length p) l))

  pub put_behind : drop (at + length p) (put l at p) ≡ drop (at + length p) l
  put_behind = sym (drop-drop (length p) at (put l at p)) ∙ rw behind (drop-append_seam p (drop (at + length p) l))

  pub put_length : length (put l at p) ≡ length l
  put_length = rw (length-append (take at l) (p ++ drop (at + length p) l), front_long, length-append p (drop (at + length p) l), length-drop (at + length p) l) (omega (arith, fits))

pub put_none : (l : List ℕ) (at : ℕ) → put l at [] ≡ l
put_none l at = rw (add-zero at) (take-append-drop at l)

take_split : (l : List ℕ) (a b : ℕ) → a ≤ length l → take (a + b) l ≡ take a l ++ part l a b
take_split l a b h = rw (length-take-le a l h, take-append-drop a l) at (take-append-add (take a l) (drop a l) b)

drop_more : (x y : List ℕ) (a b : ℕ) → a ≤ b → drop a x ≡ drop a y → drop b x ≡ drop b y
drop_more x y a b h e =
    let split : a + (b - a) ≡ b = omega (arith, h) in
    rw split at (sym (drop-drop (b - a) a x) ∙ ap (drop (b - a)) e ∙ drop-drop (b - a) a y)

-- One piece: what stands before it stays, it stands in its place, and what stands behind it stays.
pub record Kept (before after piece : List ℕ) (p n : ℕ) : Type 0 where
  pub front : take p after ≡ take p before
  pub there : part after p n ≡ piece
  pub behind : drop (p + n) after ≡ drop (p + n) before
  pub long : length after ≡ length before

pub piece_kept : (by_own : Bool) (bytes own : List ℕ) (p n : ℕ) → p + n ≤ length bytes → (by_own ≡ true → n ≤ length own)
    → Kept bytes (stored by_own bytes own p n) (piece_of (not by_own) bytes own p n) p n
piece_kept false bytes own p n within lent = rw (put_none bytes p) (record { front = refl; there = refl; behind = refl; long = refl })
piece_kept true bytes own p n within lent =
    let q = part own 0 n in
    let size : length q ≡ n = part_whole own 0 n (omega (arith, lent refl)) in
    let fits : p + length q ≤ length bytes = omega (arith, size, within) in
    record {
      front = put_before bytes q p fits;
      there = subst (λ m. part (put bytes p q) p m ≡ q) size (put_there bytes q p fits);
      behind = subst (λ m. drop (p + m) (put bytes p q) ≡ drop (p + m) bytes) size (put_behind bytes q p fits);
      long = put_length bytes q p fits;
    }

piece_long : (direct : Bool) (bytes own : List ℕ) (p n : ℕ) → p + n ≤ length bytes → (not direct ≡ true → n ≤ length own) → length (piece_of direct bytes own p n) ≡ n
piece_long true bytes own p n within lent = part_whole bytes p n within
piece_long false bytes own p n within lent = part_whole own 0 n (omega (arith, lent refl))

not_not : (b : Bool) → not (not b) ≡ true → b ≡ true
not_not true e = refl
not_not false e = e

-- The caller's bytes hold what came, in sequence.
pub all_received : {end p : ℕ} {before final : List ℕ} {pieces : List (List ℕ)} → Receives end p before pieces final → p ≤ length before
    → take (p + length (together pieces)) final ≡ take p before ++ together pieces
all_received {p = p} {before = before} nothing h = rw (add-zero p) (sym (append-nil (take p before)))
all_received {p = p} {before = before} {final = final} (then {pieces = pieces} n far by_own bytes own same front behind reach inside within lent more) h =
    let after = stored by_own bytes own p n in
    let piece = piece_of (not by_own) bytes own p n in
    let kept = piece_kept by_own bytes own p n within lent in
    let size = piece_long (not by_own) bytes own p n within (λ e. lent (not_not by_own e)) in
    let count : p + length (piece ++ together pieces) ≡ p + n + length (together pieces) = omega (arith, length-append piece (together pieces), size) in
    let split : take (p + n) after ≡ take p before ++ piece = take_split after p n (omega (arith, kept.long, within)) ∙ rw (kept.front, kept.there, front) in
    rw count
    (all_received more (omega (arith, kept.long, within))
    ∙ ap (λ l. l ++ together pieces) split
    ∙ append_assoc (take p before) piece (together pieces))

-- What lies behind all that was written stays. Where each piece came by way of the own buffer, that is all behind the total.
pub behind_kept : {end p : ℕ} {before final : List ℕ} {pieces : List (List ℕ)} → Receives end p before pieces final → drop end final ≡ drop end before
behind_kept nothing = refl
behind_kept {end = end} {p = p} {before = before} (then n far by_own bytes own same front behind reach inside within lent more) =
    let kept = piece_kept by_own bytes own p n within lent in
    behind_kept more ∙ drop_more (stored by_own bytes own p n) bytes (p + n) end (omega (arith, reach, inside)) kept.behind ∙ drop_more bytes before (p + far) end inside behind

-- a packet at least, where the own buffer holds one
pub room_some : (x : Slot) (k : Asked) → 0 < slot_size x → slot_size x ≤ (own_buffer x).size → 0 < receive_room x k
room_some x k some one = go k.single (receive_direct x k) refl
  where
    go : (b d : Bool) → receive_direct x k ≡ d → 0 < cond b (slot_size x) (cond d (rest k / slot_size x * slot_size x) (own_room (own_buffer x).size (slot_size x) (rest k)))
    go true d e = some
    go false true e =
        let f = receive_reached x k e in
        let one_packet : 1 ≤ rest k / slot_size x = (le-div_iff_mul-le some).1 (omega (arith, f.1.0)) in
        omega (arith, some, mul-le-mul_right (slot_size x) one_packet)
    go false false e = omega (arith, some, one)

-- The loop of pieces ends: one that goes on has moved the caller on, and not to the end of its bytes.
pub received_on : (x : Slot) (k : Asked) (n q : ℕ) → 0 < x.transfer.length → received_next x k n ≡ move.More q → (place k < q) × (q < k.length)
received_on x k n q some e = go k.single (ltb n x.transfer.length) (eqb (place_after k n) k.length) refl refl e
  where
    go : (b l f : Bool) → ltb n x.transfer.length ≡ l → eqb (place_after k n) k.length ≡ f
        → cond (b || (l || f)) (move.Ended (place_after k n)) (move.More (place_after k n)) ≡ move.More q → (place k < q) × (q < k.length)
    go true l f h g e = absurd (true_not_false (sym (ap goes_on e)))
    go false true f h g e = absurd (true_not_false (sym (ap goes_on e)))
    go false false true h g e = absurd (true_not_false (sym (ap goes_on e)))
    go false false false h g e =
        let to : place_after k n ≡ q = ap told e in
        let whole = ltb-false n x.transfer.length h in
        let short = eqb-false (place_after k n) k.length g in
        (omega (arith, to, whole, some, short), omega (arith, to, short))
