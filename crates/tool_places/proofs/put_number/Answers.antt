-- A number of 32 bits has no more than ten digits.
use Rattle.std.proofs.Common.{ℕ, List, ◌-◌, ◌^◌, ◌≤◌, ◌<◌, Bool, true, false, ◌≡◌, refl, leb, leb-true, leb-false, arith, length, take, length-take}
use Rattle.std.proofs.Math.Nat.{pow-le-pow_right}
use Rattle.io.specs.Digits.{IsDigitCount}
use Rattle.tool_laws.specs.TextLaws.{number_stored}
use Rattle.tool_places.proofs.put_number.Goals as goal

ten-digits : (n k : ℕ) → n < 2 ^ 32 → IsDigitCount 10 1 n k → k ≤ 10
ten-digits n k small few = go (leb k 10) refl
  where
    go : (t : Bool) → leb k 10 ≡ t → k ≤ 10
    go true e = leb-true k 10 e
    go false e =
        let more : 10 < k = leb-false k 10 e in
        let large : 10 ^ 10 ≤ 10 ^ (k - 1) = pow-le-pow_right {n = 10} (omega arith) {i = 10} {j = k - 1} (omega arith) in
        omega (arith, small, large, few.2 (omega arith))

count : (k : ℕ) (out : List ℕ) → k ≤ length out → length (take k out) ≡ k
count k out h = omega (arith, length-take k out)

pub put-requires : goal.put-requires
put-requires c =
    let d = c.decimal-count in
    omega (
      arith,
      ten-digits c.args.n d.result c.ranges.n.fits d.ensures.len,
      count d.result d.new.out d.ensures.in_bounds.0,
    )

pub returns : goal.returns
returns c =
    let d = c.decimal-count in
    let whole = count d.result d.new.out d.ensures.in_bounds.0 in
    record {
      room = omega (arith, c.put.ensures.end, ten-digits c.args.n d.result c.ranges.n.fits d.ensures.len, whole);
      digits = number_stored _ _ _ _ _ _ _ c.put.ensures d.ensures.digits whole d.ensures.len;
    }
