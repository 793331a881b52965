-- Eight numbers that were taken out of a list of eight are that list.
use Rattle.std.proofs.Common.{rules, codes, ap, ◌∙◌, ℕ, ◌≡◌, refl, List, [], ◌∷◌, arith, length, get_or}
use Rattle.tool_print.specs.Text.{row}
use Rattle.tool_show.proofs.pending.Goals as goal

eight : (l : List ℕ) → length l ≡ 8 →
    get_or l 0 0 ∷ get_or l 1 0 ∷ get_or l 2 0 ∷ get_or l 3 0 ∷ get_or l 4 0 ∷ get_or l 5 0 ∷ get_or l 6 0 ∷ get_or l 7 0 ∷ [] ≡ l
eight [] h = absurd (omega arith)
eight (a ∷ []) h = absurd (omega arith)
eight (a ∷ b ∷ []) h = absurd (omega arith)
eight (a ∷ b ∷ c ∷ []) h = absurd (omega arith)
eight (a ∷ b ∷ c ∷ d ∷ []) h = absurd (omega arith)
eight (a ∷ b ∷ c ∷ d ∷ e ∷ []) h = absurd (omega arith)
eight (a ∷ b ∷ c ∷ d ∷ e ∷ f ∷ []) h = absurd (omega arith)
eight (a ∷ b ∷ c ∷ d ∷ e ∷ f ∷ g ∷ []) h = absurd (omega arith)
eight (a ∷ b ∷ c ∷ d ∷ e ∷ f ∷ g ∷ i ∷ []) h = refl
eight (a ∷ b ∷ c ∷ d ∷ e ∷ f ∷ g ∷ i ∷ j ∷ l) h = absurd (omega arith)

pub returns : goal.returns
returns c =
    let bytes = c.unwrap_or.result in
    let n : length bytes ≡ 8 = search rules in
    c.row.ensures ∙ ap (row (codes "pending")) (eight bytes n ∙ c.unwrap_or.ensures)
