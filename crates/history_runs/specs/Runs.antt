-- What the rows of a history must be, for one direction of a data endpoint: while a transfer is in hand there, and while none is.
-- Assumes nothing.
use Rattle.std.specs.Prelude.{ℕ, Bool, not, cond, ◌&&◌, ◌||◌, ◌≡◌, List, [], ◌∷◌, ◌++◌, nat_lt, Some, None, Ok, Err}
use Rattle.state.specs.declared.Refusal.TheVariants.{Disabled, OutOfTurn, TooLong, UnfitBuffer}
use Rattle.transfer_piece.specs.declared.Piece.{Piece}
use Rattle.history_ideal.specs.Ideal.{Chain, Sends, Receives, Report, Ideal}
use Rattle.history_ideal.specs.Plan.{handed}
use Rattle.history_ops.specs.Recorded.{Recorded, none, recorded}
use Rattle.history_rows.specs.Rows.{Row}
use Rattle.history_rows.specs.Memory.{Memory}
use Rattle.history_memory.specs.Remembered.{behind}
use Rattle.history_effect.specs.Seen.{Told, Seen, Begins, Reports, Asks, Early, Cuts, Nothing, seen}

-- chains as they are recorded
abbrev pub one_noted : Chain → Recorded
one_noted (Sends b p x) = record { dma = b ∷ []; packets = p ∷ []; last = x ∷ [] }
one_noted (Receives b p) = record { dma = b ∷ []; packets = p ∷ []; last = [] }

abbrev pub joined : Recorded → Recorded → Recorded
joined x y = record { dma = x.dma ++ y.dma; packets = x.packets ++ y.packets; last = x.last ++ y.last }

abbrev pub all_noted : List Chain → Recorded
all_noted [] = none
all_noted (k ∷ ks) = joined (one_noted k) (all_noted ks)

-- what a call is in a row, where m is what is remembered before it
abbrev pub seen_in : ℕ → Bool → Memory → Row → Seen
seen_in e incoming m r = seen e incoming m r.world r.call r.outcome

-- ---- no transfer is in hand: no chain is recorded, and a take gets 22, until a begin is accepted

unfoldable pub FreeNext : Recorded → Piece → Type 0 → Seen → Type 0
FreeNext chains p go (Begins q) = Unit {0}
FreeNext chains p go (Reports r) = (chains ≡ none) × go
FreeNext chains p go (Asks unfit most busy Says) = (chains ≡ none) × (Says p (Err Disabled) × go)
FreeNext chains p go (Early Says) = (chains ≡ none) × (Says p (Err OutOfTurn) × go)
FreeNext chains p go Cuts = (chains ≡ none) × go
FreeNext chains p go Nothing = (chains ≡ none) × go

-- p is any piece: what a refused take says hangs on none
unfoldable pub Free : ℕ → Bool → Piece → Memory → List Row → Type 0
unfolding FreeNext
Free e incoming p m [] = Unit {0}
Free e incoming p m (r ∷ later) =
    FreeNext (recorded incoming e r.outcome.ops) p (Free e incoming p (behind m r) later) (seen_in e incoming m r)

-- ---- one is in hand that was begun before the list: nothing is said of it, but that no begin is accepted before it is taken or
-- cut, and that the slot is free then

unfoldable pub OlderNext : Type 0 → Type 0 → Seen → Type 0
OlderNext go free (Begins q) = ⊥
OlderNext go free (Reports r) = go
OlderNext go free (Asks unfit most busy Says) = cond (unfit || busy) go free
OlderNext go free (Early Says) = go
OlderNext go free Cuts = free
OlderNext go free Nothing = go

unfoldable pub Older : ℕ → Bool → Piece → Memory → List Row → Type 0
unfolding OlderNext Free
Older e incoming p m [] = Unit {0}
Older e incoming p m (r ∷ later) =
    OlderNext (Older e incoming p (behind m r) later) (Free e incoming p (behind m r) later) (seen_in e incoming m r)

-- ---- a transfer of the piece p is in hand, whose own reports so far are rs, the latest first

-- so many bytes, or 9 where there is no room for them
abbrev pub within : ℕ → ℕ → Told
within most n = cond (nat_lt most n) (Err TooLong) (Ok (Some n))

-- what a take comes to: 8 of what it is lent; busy; the result
unfoldable pub told : Ideal → List Report → Bool → ℕ → Told
told i rs unfit most = cond unfit (Err UnfitBuffer) (cond (i.done rs) (within most (i.result rs)) (Ok None))

-- `go rs` says what the rows behind this one must be where rs are the own reports by then, `free` where the transfer is over
unfoldable pub Next : Recorded → Ideal → Piece → List Report → (List Report → Type 0) → Type 0 → Seen → Type 0
unfolding told
-- no begin is accepted
Next chains i p rs go free (Begins q) = ⊥
-- an own report records the next chain, unless the transfer is done then
Next chains i p rs go free (Reports r) = (chains ≡ all_noted (handed i (r ∷ rs))) × go (r ∷ rs)
-- a take in its turn ends the transfer that is done, with 9 too
Next chains i p rs go free (Asks unfit most busy Says) =
    (chains ≡ none) × (Says p (told i rs unfit (most p)) × cond (i.done rs && not unfit) free (go rs))
Next chains i p rs go free (Early Says) = (chains ≡ none) × (Says p (Err OutOfTurn) × go rs)
Next chains i p rs go free Cuts = (chains ≡ none) × free
Next chains i p rs go free Nothing = (chains ≡ none) × go rs

unfoldable pub Goes : ℕ → Bool → Ideal → Piece → List Report → Memory → List Row → Type 0
unfolding Next Free
Goes e incoming i p rs m [] = Unit {0}
Goes e incoming i p rs m (r ∷ later) =
    Next (recorded incoming e r.outcome.ops) i p rs (λ rs'. Goes e incoming i p rs' (behind m r) later) (Free e incoming p (behind m r) later)
    (seen_in e incoming m r)

-- from the begin on, which records the first chain
unfoldable pub Transfer : ℕ → Bool → Ideal → Piece → Memory → List Row → Type 0
unfolding Goes
Transfer e incoming i p m [] = ⊥
Transfer e incoming i p m (r ∷ later) =
    (recorded incoming e r.outcome.ops ≡ all_noted (handed i [])) × Goes e incoming i p [] (behind m r) later
