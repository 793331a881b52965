-- A part without the byte is passed over.
use Rattle.std.proofs.Common.{◌≡◌, ◌==◌, ℕ, ◌+◌, Bool, false, List, [], ◌∷◌, ◌++◌, length, sym, ◌∙◌, arith}
use Rattle.std.specs.List.{position_or_len, list_any}
use Rattle.tool_lines.proofs.position.Goals as goal

part_passed : (p : ℕ → Bool) (part rest : List ℕ) → list_any p part ≡ false → position_or_len p (part ++ rest) ≡ length part + position_or_len p rest
part_passed p [] rest none = omega arith
part_passed p (b ∷ part) rest none = grind (arith, part_passed p part rest)

pub loop-rest-preserved : goal.loop-rest-preserved
loop-rest-preserved c =
    let more = part_passed (λ b. b == c.args.byte) _ c.split_at.result.1.now (sym c.contains.ensures.value ∙ c.if-contains.false) in
    record { within = omega arith; passed = omega (arith, rw (← c.split_at.ensures.by_index.0) at more) }
