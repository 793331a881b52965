-- Over all pieces of a send, the bytes handed to the controller are the caller's, in sequence, each once.
-- Assumes nothing.
use Rattle.std.specs.Prelude.{ℕ, zero, suc, ◌+◌, ◌≤◌, ◌<◌, min, Bool, true, false, ◌&&◌, ◌||◌, cond, List, [], ◌∷◌, ◌++◌, ◌≡◌, refl, ltb, length, drop}
use Rattle.std.proofs.Common.{ap, sym, ◌∙◌, zero-add, arith, ltb-true, ltb-false, eq-eqb, take-append-drop, drop_of_length-le, drop-drop}
use Rattle.std.proofs.Math.Seq.{drop-length}
use Rattle.base.specs.Bits.{bit}
use Rattle.base.specs.EachLaws.{and_right, true_not_false}
use Rattle.state.specs.declared.Slot.{Slot}
use Rattle.state_slots.specs.Slots.{own_buffer}
use Rattle.transfer_piece.specs.Piece.{piece}
use Rattle.endpoint_choice.specs.declared.Asked.{Asked}
use Rattle.endpoint_choice.specs.Choice.{place, rest, place_after, reaches, closes, send_direct, send_piece, send_begins, own_transfer}
use Rattle.endpoint_parts.specs.PartsLaws.{part_whole}
use Rattle.endpoint_answer.specs.declared.Move.{Move}
use Rattle.endpoint_answer.specs.declared.Move.TheVariants as move
use Rattle.endpoint_sent.specs.Sent.{sent_next}
use Rattle.endpoint_laws.specs.Sends.{standing, handed, sent_slot, sent_then, Sends, nothing, last, then, Ends, together, emptyb, empties}

-- where an answer says that the caller stands, and whether more is to come
abbrev pub told : Move → ℕ
told (move.Begun n) = 0
told move.Busy = 0
told (move.More n) = n
told (move.Ended n) = n

abbrev pub goes_on : Move → Bool
goes_on (move.Begun n) = false
goes_on move.Busy = false
goes_on (move.More n) = true
goes_on (move.Ended n) = false

module _ (x : Slot) (k : Asked) (n : ℕ) where
  -- whatever is next, it is where n bytes lead to
  next_place : told (sent_next x k n) ≡ place_after k n
  next_place = go (ltb (place_after k n) k.length) (own_transfer x && (closes x k && ltb 0 n)) refl
    where
      go : (a b : Bool) → ltb (place_after k n) k.length ≡ a → told (cond a (move.More (place_after k n)) (cond b (move.More k.length) (move.Ended k.length))) ≡ place_after k n
      go true b e = refl
      go false true e = let h = ltb-false (place_after k n) k.length e in omega (arith, h)
      go false false e = let h = ltb-false (place_after k n) k.length e in omega (arith, h)

  -- an end is where all bytes are sent
  next_end : goes_on (sent_next x k n) ≡ false → k.length ≤ place_after k n
  next_end = go (ltb (place_after k n) k.length) (own_transfer x && (closes x k && ltb 0 n)) refl
    where
      go : (a b : Bool) → ltb (place_after k n) k.length ≡ a → goes_on (cond a (move.More (place_after k n)) (cond b (move.More k.length) (move.Ended k.length))) ≡ false
          → k.length ≤ place_after k n
      go true b e h = absurd (true_not_false h)
      go false b e h = ltb-false (place_after k n) k.length e

left_false : (a b : Bool) → (a || b) ≡ false → a ≡ false
left_false false b e = refl
left_false true b e = absurd (true_not_false e)

dropped : (l : List ℕ) (size m : ℕ) → size ≡ length l → drop (min size m) l ≡ drop m l
dropped l size m s = go (ltb size m) refl
  where
    go : (b : Bool) → ltb size m ≡ b → drop (min size m) l ≡ drop m l
    go true e =
        let h = ltb-true size m e in
        let full : min size m ≡ length l = omega (arith, h, s) in
        rw full (drop-length l ∙ sym (drop_of_length-le l {i = m} (omega (arith, h, s))))
    go false e = let h = ltb-false size m e in let same : min size m ≡ m = omega (arith, h) in rw same

module _ (x : Slot) (k : Asked) (bytes : List ℕ) (size : k.length ≡ length bytes) where
  -- a piece and what is left behind it are what was left
  joined : (p : ℕ) → handed x (standing k p) bytes ++ drop (place_after (standing k p) (send_piece x (standing k p)).length) bytes ≡ drop (place (standing k p)) bytes
  joined p =
      let here = place (standing k p) in
      let n = (send_piece x (standing k p)).length in
      rw (dropped bytes k.length (here + n) size, sym (drop-drop n here bytes)) (take-append-drop n (drop here bytes))

  -- The bytes of all pieces are what is left of the caller's, in sequence, each once.
  pub all_sent : {p : ℕ} {ps : List (List ℕ)} → Sends x k bytes p ps → together ps ≡ drop (place (standing k p)) bytes
  all_sent {p} (nothing e) =
      let h = ltb-false 0 (rest (standing k p)) (left_false (ltb 0 (rest (standing k p))) _ e) in
      sym (drop_of_length-le bytes {i = place (standing k p)} (omega (arith, h, size)))
  all_sent {p} (last b e) =
      let n = (send_piece x (standing k p)).length in
      let h = next_end (sent_slot x (standing k p)) (standing k p) n (ap goes_on e) in
      ap (λ l. handed x (standing k p) bytes ++ l) (sym (drop_of_length-le bytes {i = place_after (standing k p) n} (omega (arith, h, size)))) ∙ joined p
  all_sent {p} (then {q = q} b e s) =
      let n = (send_piece x (standing k p)).length in
      let to : q ≡ place_after (standing k p) n = sym (ap told e) ∙ next_place (sent_slot x (standing k p)) (standing k p) n in
      let here : place (standing k q) ≡ place_after (standing k p) n = omega (arith, to) in
      ap (λ l. handed x (standing k p) bytes ++ l) (all_sent s ∙ rw here) ∙ joined p

module _ (x : Slot) (k : Asked) (bytes : List ℕ) (holds : 0 < (own_buffer x).size) where
  -- a piece has a byte where one is left
  piece_some : (p : ℕ) → 0 < rest (standing k p) → 0 < (send_piece x (standing k p)).length
  piece_some p h = go (send_direct (standing k p))
    where
      go : (d : Bool)
          → 0 < (cond d (piece (k.address + place (standing k p)) (rest (standing k p)) (closes x k)) (piece (own_buffer x).address (min (own_buffer x).size (rest (standing k p))) false)).length
      go true = h
      go false = omega (arith, h, holds)

  -- and none where none is
  piece_none : (p : ℕ) → rest (standing k p) ≡ 0 → (send_piece x (standing k p)).length ≡ 0
  piece_none p h = go (send_direct (standing k p))
    where
      go : (d : Bool)
          → (cond d (piece (k.address + place (standing k p)) (rest (standing k p)) (closes x k)) (piece (own_buffer x).address (min (own_buffer x).size (rest (standing k p))) false)).length ≡ 0
      go true = h
      go false = omega (arith, h)

  rest_some : (p : ℕ) → 0 < (send_piece x (standing k p)).length → 0 < rest (standing k p)
  rest_some p h = go (ltb 0 (rest (standing k p))) refl
    where
      go : (b : Bool) → ltb 0 (rest (standing k p)) ≡ b → 0 < rest (standing k p)
      go true e = ltb-true 0 _ e
      go false e = let none = ltb-false 0 (rest (standing k p)) e in absurd (omega (arith, h, piece_none p (omega (arith, none))))

  -- The loop of pieces ends: each leaves less, and behind the last byte there is the closing packet at most.
  pub sends_end : (p : ℕ) → Ends x k bytes p
  sends_end p = go (suc (rest (standing k p))) p (omega arith)
    where
      on : (f p : ℕ) (a b : Bool) → rest (standing k p) < suc f → send_begins x (standing k p) ≡ true
          → ltb (place_after (standing k p) (send_piece x (standing k p)).length) k.length ≡ a
          → (own_transfer (sent_slot x (standing k p)) && (closes x k && ltb 0 (send_piece x (standing k p)).length)) ≡ b
          → ((q : ℕ) → rest (standing k q) < f → Ends x k bytes q) → Ends x k bytes p
      on f p true b h begins e c next =
          let left = ltb-true _ k.length e in
          let some = piece_some p (omega (arith, left)) in
          let q = place_after (standing k p) (send_piece x (standing k p)).length in
          let r = next q (omega (arith, left, some, h)) in
          record { pieces = handed x (standing k p) bytes ∷ r.pieces; are = then {q = q} begins (rw e) r.are }
      on f p false true h begins e c next =
          let n = (send_piece x (standing k p)).length in
          let some = ltb-true 0 n (and_right (closes x k) (ltb 0 n) (and_right (own_transfer (sent_slot x (standing k p))) (closes x k && ltb 0 n) c)) in
          let r = next k.length (omega (arith, rest_some p some, h)) in
          record { pieces = handed x (standing k p) bytes ∷ r.pieces; are = then {q = k.length} begins (rw (e, c)) r.are }
      on f p false false h begins e c next = record { pieces = handed x (standing k p) bytes ∷ []; are = last {total = k.length} begins (rw (e, c)) }

      step : (f p : ℕ) (b : Bool) → send_begins x (standing k p) ≡ b → rest (standing k p) < suc f → ((q : ℕ) → rest (standing k q) < f → Ends x k bytes q) → Ends x k bytes p
      step f p false e h next = record { pieces = []; are = nothing e }
      step f p true e h next = on f p _ _ h e refl refl next

      go : (f p : ℕ) → rest (standing k p) < f → Ends x k bytes p
      go zero p h = absurd (omega (arith, h))
      go (suc f) p h = step f p (send_begins x (standing k p)) refl h (go f)

empty_none : (l : List ℕ) → length l ≡ 0 → emptyb l ≡ true
empty_none [] e = refl
empty_none (byte ∷ l) e = absurd (omega (arith, e))

empty_some : (l : List ℕ) → 0 < length l → emptyb l ≡ false
empty_some [] h = absurd (omega (arith, h))
empty_some (byte ∷ l) h = refl

-- What the controller doesn't reach is copied.
module _ (x : Slot) (k : Asked) (bytes : List ℕ) (holds : 0 < (own_buffer x).size) (size : k.length ≡ length bytes) (far : reaches k.address k.length ≡ false) where
  copied : (p : ℕ) → send_direct (standing k p) ≡ false
  copied p = rw far (go (ltb 0 (rest (standing k p))))
    where
      go : (b : Bool) → (b && false) ≡ false
      go true = refl
      go false = refl

  -- so it goes by way of the own buffer
  by_own : (p : ℕ) → own_transfer (sent_slot x (standing k p)) ≡ true
  by_own p = rw (copied p) (eq-eqb (own_buffer x).address (own_buffer x).address refl)

  -- a piece is empty where nothing is left
  long : (p : ℕ) → length (handed x (standing k p) bytes) ≡ (send_piece x (standing k p)).length
  long p = rw (copied p) (part_whole bytes (place (standing k p)) (min (own_buffer x).size (rest (standing k p))) (omega (arith, size)))

  full : (p : ℕ) → 0 < (send_piece x (standing k p)).length → bit (emptyb (handed x (standing k p) bytes)) ≡ 0
  full p h = rw (empty_some (handed x (standing k p) bytes) (rw (long p) h))

  abbrev count : ℕ → ℕ
  count p = (send_piece x (standing k p)).length

  -- one that goes on has bytes; behind an end nothing is owed
  on_some : (p : ℕ) → goes_on (sent_then x (standing k p)) ≡ true → 0 < count p
  on_some p h = go (ltb (place_after (standing k p) (count p)) k.length) (ltb 0 (count p)) (closes x k) refl refl (rw (by_own p) at h)
    where
      go : (a b c : Bool) → ltb (place_after (standing k p) (count p)) k.length ≡ a → ltb 0 (count p) ≡ b
          → goes_on (cond a (move.More (place_after (standing k p) (count p))) (cond (c && b) (move.More k.length) (move.Ended k.length))) ≡ true → 0 < count p
      go true b c e f h = let left = ltb-true _ k.length e in piece_some x k bytes holds p (omega (arith, left))
      go false true c e f h = ltb-true 0 (count p) f
      go false false true e f h = absurd (true_not_false (sym h))
      go false false false e f h = absurd (true_not_false (sym h))

  end_none : (p : ℕ) → goes_on (sent_then x (standing k p)) ≡ false → (closes x k && ltb 0 (count p)) ≡ false
  end_none p h = go (ltb (place_after (standing k p) (count p)) k.length) (closes x k && ltb 0 (count p)) (rw (by_own p) at h)
    where
      go : (a b : Bool) → goes_on (cond a (move.More (place_after (standing k p) (count p))) (cond b (move.More k.length) (move.Ended k.length))) ≡ false → b ≡ false
      go true b h = absurd (true_not_false h)
      go false true h = absurd (true_not_false h)
      go false false h = refl

  -- begun, with nothing left or not, by what the test of `send` says
  owed : (b : Bool) (p : ℕ) → rest (standing k p) ≡ 0 → send_begins x (standing k p) ≡ b → closes x k ≡ b
  owed b p none e = and_one (closes x k) (rw (far, none) at e)
    where
      and_one : (c : Bool) → (c && true) ≡ b → c ≡ b
      and_one true h = h
      and_one false h = h

  rest_none : (p : ℕ) → count p ≡ 0 → rest (standing k p) ≡ 0
  rest_none p h = go (ltb 0 (rest (standing k p))) refl
    where
      go : (b : Bool) → ltb 0 (rest (standing k p)) ≡ b → rest (standing k p) ≡ 0
      go true e = let some = ltb-true 0 (rest (standing k p)) e in absurd (omega (arith, h, piece_some x k bytes holds p some))
      go false e = let none = ltb-false 0 (rest (standing k p)) e in omega (arith, none)

  -- A copied send has one packet without bytes where it is to be closed by one, and none else.
  pub closing_once : {p : ℕ} {ps : List (List ℕ)} → Sends x k bytes p ps → empties ps ≡ bit (closes x k)
  closing_once {p} (nothing e) =
      let none = ltb-false 0 (rest (standing k p)) (left_false (ltb 0 (rest (standing k p))) _ e) in
      rw (owed false p (omega (arith, none)) e)
  closing_once {p} (last b e) = go (ltb 0 (count p)) refl (end_none p (ap goes_on e))
    where
      left : (c : Bool) → (c && true) ≡ false → c ≡ false
      left true h = h
      left false h = h

      go : (some : Bool) → ltb 0 (count p) ≡ some → (closes x k && some) ≡ false → bit (emptyb (handed x (standing k p) bytes)) + 0 ≡ bit (closes x k)
      go true f h = rw (full p (ltb-true 0 (count p) f), left (closes x k) h)
      go false f h =
          let none = ltb-false 0 (count p) f in
          let nothing_left = rest_none p (omega (arith, none)) in
          rw (empty_none (handed x (standing k p) bytes) (long p ∙ omega (arith, none)), owed true p nothing_left b)
  closing_once {p} (then b e s) = rw (full p (on_some p (ap goes_on e))) (zero-add _ ∙ closing_once s)
