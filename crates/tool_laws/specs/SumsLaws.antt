-- The pattern and the sum, byte by byte.
-- Assumes nothing.
use Rattle.std.specs.Prelude.{ℕ, ◌+◌, ◌≤◌, ◌<◌, List, ◌≡◌, refl, length, get_or}
use Rattle.std.proofs.Common.{add-one, arith, drop_of_length-le, drop-cons}
use Rattle.base.specs.EachLaws.{change_length}
use Rattle.tool_patterns.specs.Patterns.{pattern_byte, with_byte, sum_of}
use Rattle.tool_patterns.specs.PatternsLaws.{Begun}
use Rattle.tool_laws.specs.Sums.{Adding}

-- filling leaves as many bytes
pub begun_length : {pattern : ℕ} {bytes : List ℕ} {i : ℕ} {now : List ℕ} → Begun pattern bytes i now → length now ≡ length bytes
begun_length {pattern} {bytes} {i} b = rw b.is (change_length 0 (λ k byte. pattern_byte pattern k) i bytes)

pub none_added : (bytes : List ℕ) → Adding bytes 0 0
none_added bytes = record { within = omega arith; is = refl }

module _ {bytes : List ℕ} {i sum : ℕ} (a : Adding bytes i sum) where
  pub one_added : {next : ℕ} → next ≡ with_byte sum (get_or bytes i 0) → i < length bytes → Adding bytes (i + 1) next
  one_added e h = record { within = omega arith; is = rw (e, add-one i) (rw (drop-cons bytes i 0 h) at a.is) }

  pub all_added : length bytes ≤ i → sum ≡ sum_of bytes
  all_added h = rw (drop_of_length-le bytes {i = i} h) at a.is
