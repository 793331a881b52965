-- The first refusal is given exactly where it is the first that is due.
-- Assumes nothing.
use Rattle.std.specs.Prelude.{Bool, true, false, List, [], ◌∷◌, ◌++◌, ◌≡◌, refl, Ok, Err}
use Rattle.std.proofs.Common.{subst}
use Rattle.state.specs.declared.Refusal.{Refusal}
use Rattle.state.specs.Refusals.{Check, Condition, ◌if◌, first_refusal, NoneDue, end, then, FirstIs, here, later, Bound}

passed : (q : Refusal) (ds : List Condition) (c : Check) → Bound ds c → Bound ((q if false) ∷ ds) c
passed q ds (Ok u) p = then p
passed q ds (Err r) p = later p

pub bound : (ds : List Condition) → Bound ds (first_refusal ds)
bound [] = end
bound ((r if true) ∷ ds) = here
bound ((r if false) ∷ ds) = passed r ds (first_refusal ds) (bound ds)

pub fits_if : {ds : List Condition} → NoneDue ds → first_refusal ds ≡ Ok tt
fits_if end = refl
fits_if (then p) = fits_if p

pub refused_if : {r : Refusal} {ds : List Condition} → FirstIs r ds → first_refusal ds ≡ Err r
refused_if here = refl
refused_if (later p) = refused_if p

-- where a call fits, none is due
pub none_due : (ds : List Condition) → first_refusal ds ≡ Ok tt → NoneDue ds
none_due ds e = subst (Bound ds) e (bound ds)

pub not_due : {r : Refusal} {b : Bool} {ds : List Condition} → NoneDue ((r if b) ∷ ds) → (b ≡ false) × NoneDue ds
not_due (then p) = (refl, p)

-- further conditions are asked where none of the first ones is due
pub first_passed : (ds es : List Condition) (u : Unit) → first_refusal ds ≡ Ok u → first_refusal (ds ++ es) ≡ first_refusal es
first_passed [] es u h = refl
first_passed ((r if true) ∷ ds) es u h = absurd (cc)
first_passed ((r if false) ∷ ds) es u h = first_passed ds es u h

pub first_stopped : (ds es : List Condition) (r : Refusal) → first_refusal ds ≡ Err r → first_refusal (ds ++ es) ≡ Err r
first_stopped [] es r h = absurd (cc)
first_stopped ((q if true) ∷ ds) es r h = h
first_stopped ((q if false) ∷ ds) es r h = first_stopped ds es r h
