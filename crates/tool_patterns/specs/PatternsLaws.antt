-- The pattern, byte by byte.
-- Assumes nothing.
use Rattle.std.specs.Prelude.{ℕ, ◌+◌, ◌*◌, ◌/◌, ◌%◌, ◌≤◌, ◌<◌, List, ◌≡◌, length, set}
use Rattle.std.proofs.Common.{sym, ◌∙◌, arith}
use Rattle.std.proofs.Math.Nat.{add-mul-mod_self_right}
use Rattle.base.specs.Each.{change}
use Rattle.base.specs.EachLaws.{change_none, change_next}
use Rattle.tool_patterns.specs.Patterns.{pattern_byte, filled}

-- a byte hangs on the parts modulo 256 alone
pub pattern_reduced : (pattern i : ℕ) → (pattern % 256 + (31 * (i % 256) + 17 * (i / 256 % 256))) % 256 ≡ pattern_byte pattern i
pattern_reduced pattern i =
    let reduced = pattern % 256 + (31 * (i % 256) + 17 * (i / 256 % 256)) in
    let times = pattern / 256 + 31 * (i / 256) + 17 * (i / 256 / 256) in
    let whole : pattern + 31 * i + 17 * (i / 256) ≡ reduced + times * 256 = omega arith in
    rw whole (sym (add-mul-mod_self_right reduced times 256))

-- i bytes are filled
pub record Begun (pattern : ℕ) (bytes : List ℕ) (i : ℕ) (now : List ℕ) : Type 0 where
  pub within : i ≤ length bytes
  pub is : now ≡ change (λ k byte. pattern_byte pattern k) i bytes

pub none_filled : (pattern : ℕ) (bytes : List ℕ) → Begun pattern bytes 0 bytes
none_filled pattern bytes = record { within = omega arith; is = sym (change_none (λ k byte. pattern_byte pattern k) bytes) }

module _ {pattern : ℕ} {bytes : List ℕ} {i : ℕ} {now : List ℕ} (b : Begun pattern bytes i now) where
  pub one_more : {byte : ℕ} → byte ≡ pattern_byte pattern i → i < length bytes → Begun pattern bytes (i + 1) (set now i byte)
  one_more e h =
      record {
        within = omega arith;
        is = rw (e, b.is) (change_next (λ k byte. pattern_byte pattern k) i bytes 0);
      }

  pub all_filled : length bytes ≤ i → now ≡ filled pattern bytes
  all_filled h =
      let end : i ≡ length bytes = omega (arith, b.within) in
      b.is ∙ rw end
