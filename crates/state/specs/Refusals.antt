-- Which refusal a call gives where several apply: the first in document 01's sequence.
-- Assumes nothing.
use Rattle.std.specs.Prelude.{Bool, true, false, List, [], ◌∷◌, Result, Ok, Err}
use Rattle.state.specs.declared.Refusal.{Refusal}

-- what a call's tests come to
abbrev pub Check : Type 0
Check = Result Unit Refusal

-- a refusal, and whether its condition holds
infix 70 ◌if◌
pub data Condition : Type 0 where
  ◌if◌ : Refusal → Bool → Condition

abbrev pub refuse_if : Bool → Refusal → Check → Check
refuse_if true r further = Err r
refuse_if false r further = further

-- the first that is due
abbrev pub first_refusal : List Condition → Check
first_refusal [] = Ok tt
first_refusal ((r if b) ∷ ds) = refuse_if b r (first_refusal ds)

-- none of them is
pub data NoneDue : List Condition → Type 0 where
  end : NoneDue []
  then : {r : Refusal} {ds : List Condition} → NoneDue ds → NoneDue ((r if false) ∷ ds)

-- r is due, and none before it
pub data FirstIs (r : Refusal) : List Condition → Type 0 where
  here : {ds : List Condition} → FirstIs r ((r if true) ∷ ds)
  later : {q : Refusal} {ds : List Condition} → FirstIs r ds → FirstIs r ((q if false) ∷ ds)

-- A call fits exactly where no refusal is due, and is refused with r exactly where r is the first that is.
abbrev pub Bound : List Condition → Check → Type 0
Bound ds (Ok u) = NoneDue ds
Bound ds (Err r) = FirstIs r ds
