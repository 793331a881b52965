-- What the packets of one chain come to: addresses, lengths, and how many are empty.
-- Assumes nothing.
use Rattle.std.specs.Prelude.{ℕ, zero, suc, ◌+◌, ◌*◌, ◌-◌, ◌<◌, ◌≤◌, Bool, false, cond, ◌==◌, ◌≡◌, refl, eqb, List, [], ◌∷◌, ◌++◌, replicate, count_by}
use Rattle.std.proofs.Common.{ap, ◌∙◌, add-zero, zero-add, arith, ne_eqb}
use Rattle.std.proofs.lemmas.List.{replicate_more}
use Rattle.std.proofs.lemmas.List.Folds.{sum_by-replicate}
use Rattle.std.proofs.lemmas.List.Sums.{sum_by_push}
use Rattle.base.specs.Ceil.{div_ceil}
use Rattle.base.specs.CeilLaws.{below_ceil, ceil_above}
use Rattle.history_ideal.specs.Ideal.{Sends, full, data_chain}
use Rattle.history_ideal.specs.Plan.{span, read_by, packets_of, FairSend}
use Rattle.history_ideal.proofs.RoundingLaws.{one_more, ceil_within, ceil_covers, ceil_exact}

-- x addresses and the y behind them
pub span_add : (a x y : ℕ) → span a x ++ span (a + x) y ≡ span a (x + y)
unfolding span
span_add a zero y = rw (add-zero a, zero-add y) refl
span_add a (suc x) y =
    let e : suc x + y ≡ suc (x + y) = omega arith in
    let b : a + suc x ≡ suc a + x = omega arith in
    rw (e, b) (ap (λ (t : List ℕ). a ∷ t) (span_add (suc a) x y))

pub span_none : (a : ℕ) → span a 0 ≡ []
unfolding span
span_none a = refl

-- how many are empty
abbrev pub zeros : List ℕ → ℕ
zeros ns = count_by (λ n. n == 0) ns

-- the last of them alone, behind whole packets
pub zeros_whole : (m n x : ℕ) → 0 < m → zeros (replicate n m ++ x ∷ []) ≡ cond (x == 0) 1 0
zeros_whole m n x some =
    let z : zeros (replicate n m) ≡ 0 = sum_by-replicate (λ (k : ℕ). cond (k == 0) 1 0) n m ∙ rw (ne_eqb m 0 (λ e. omega (arith, e, some))) (omega arith) in
    sum_by_push (λ (k : ℕ). cond (k == 0) 1 0) (replicate n m) x ∙ rw z (omega arith)

module _ (lim m : ℕ) (pos : 0 < m) where
  -- a chain of x bytes from b on, x at most full
  module _ (b x : ℕ) (some : 0 < x) (fits : x ≤ full lim m) where
    pub data_some : 0 < div_ceil x m
    data_some = ceil_above x m 0 pos (omega arith)

    pub before_last : (div_ceil x m - 1) * m < x
    before_last = below_ceil x m (div_ceil x m - 1) pos (omega (arith, data_some))

    pub last_within : x - (div_ceil x m - 1) * m ≤ m
    last_within = omega (arith, ceil_covers x m pos, one_more (div_ceil x m) m data_some)

    pub data_read : read_by m (data_chain m b x) ≡ span b x
    unfolding read_by data_chain
    data_read = let e : (div_ceil x m - 1) * m + (x - (div_ceil x m - 1) * m) ≡ x = omega (arith, before_last) in rw e refl

    pub data_fair : FairSend lim m (data_chain m b x)
    unfolding FairSend data_chain full
    data_fair = (data_some, ceil_within x m pos lim fits, last_within, λ e. absurd (omega (arith, before_last, e)))

    pub data_packets : packets_of m (data_chain m b x) ≡ replicate (div_ceil x m - 1) m ++ (x - (div_ceil x m - 1) * m) ∷ []
    unfolding packets_of data_chain
    data_packets = refl

    pub data_zeros : zeros (packets_of m (data_chain m b x)) ≡ 0
    data_zeros =
        let y = x - (div_ceil x m - 1) * m in
        let some_left : eqb y 0 ≡ false = ne_eqb y 0 (λ e. omega (arith, before_last, e)) in
        let z : zeros (replicate (div_ceil x m - 1) m ++ y ∷ []) ≡ cond (y == 0) 1 0 = zeros_whole m (div_ceil x m - 1) y pos in
        rw data_packets (z ∙ ap (λ (t : Bool). cond t 1 0) some_left)

  -- a chain of q whole packets
  pub whole_packets : (b q : ℕ) → 0 < q → packets_of m (data_chain m b (q * m)) ≡ replicate q m
  unfolding packets_of data_chain
  whole_packets b q some =
      let e1 = ceil_exact q m pos in
      let e2 : q * m - (q - 1) * m ≡ m = omega (arith, one_more q m some) in
      let e3 : q - 1 + 1 ≡ q = omega arith in
      rw (e1, e2) (replicate_more (q - 1) m ∙ ap (λ (n : ℕ). replicate n m) e3)

module _ (lim : ℕ) (one : 0 < lim) (own m : ℕ) (pos : 0 < m) where
  -- the empty packet
  pub none_read : read_by m (Sends own 1 0) ≡ []
  unfolding read_by span
  none_read = let e : (1 - 1) * m + 0 ≡ 0 = omega arith in rw e refl

  pub none_fair : FairSend lim m (Sends own 1 0)
  unfolding FairSend
  none_fair = (omega arith, omega arith, omega arith, λ e. refl)

  pub none_packets : packets_of m (Sends own 1 0) ≡ replicate 0 m ++ 0 ∷ []
  unfolding packets_of
  none_packets = let e : 1 - 1 ≡ 0 = omega arith in rw e refl

  pub none_zeros : zeros (packets_of m (Sends own 1 0)) ≡ 1
  none_zeros = rw none_packets (zeros_whole m 0 0 pos)
