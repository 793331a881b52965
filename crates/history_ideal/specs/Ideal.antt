-- How a single transfer should go, as a function of its own reports: the chains that are handed over, when it is done, its
-- result and its progress. An own report is one of the transfer's chains that comes while it is in hand. The transfer is of `l`
-- bytes from `a` on, in packets of `m` bytes, `lim` of them to a chain at most; the flag `f` asks for an empty packet at the end.
-- Assumes nothing.
use Rattle.std.specs.Prelude.{ℕ, suc, ◌+◌, ◌*◌, ◌-◌, ◌/◌, min, max, Bool, true, false, cond, ◌&&◌, ◌||◌, List, [], ◌∷◌, length, nat_lt, nat_le}
use Rattle.base.specs.Ceil.{div_ceil}
use Rattle.transfer_chain.specs.Chains.{reported}
use Rattle.transfer_piece.specs.declared.Piece.{Piece}

-- a chain as it is recorded: so many packets from `dma` on, and of IN the length of the last one
pub data Chain : Type 0 where
  Sends : (dma packets last : ℕ) → Chain
  Receives : (dma packets : ℕ) → Chain

-- an own report: how many packets came, and the length of the last one. IN tells neither, and has zeros.
pub record Report : Type 0 where
  pub packets : ℕ
  pub last : ℕ

-- Each is a function of the own reports so far, the latest first.
pub record Ideal : Type 0 where
  -- whether the transfer is done,
  pub done : List Report → Bool
  -- the chain that is handed over at the latest of them, unless it is done then,
  pub chain : List Report → Chain
  -- its result once it is done,
  pub result : List Report → ℕ
  -- and its progress, if it is cut then
  pub moved : List Report → ℕ

-- ---- to the host

-- the most bytes of a chain
unfoldable pub full : ℕ → ℕ → ℕ
full lim m = lim * m

-- N: a chain for each full chain's worth of bytes that is begun, one at least, and one for the empty packet behind bytes
unfoldable pub chain_count : ℕ → ℕ → ℕ → Bool → ℕ
unfolding full
chain_count lim m l f = max 1 (div_ceil l (full lim m)) + cond (f && nat_lt 0 l) 1 0

-- x bytes from b on
unfoldable pub data_chain : ℕ → ℕ → ℕ → Chain
data_chain m b x = Sends b (div_ceil x m) (x - (div_ceil x m - 1) * m)

-- the chain behind k others begins k full chains on,
unfoldable pub start_of : ℕ → ℕ → ℕ → ℕ → ℕ
unfolding full
start_of lim m a k = a + k * full lim m

-- and has as many bytes as are left and fit
unfoldable pub bytes_of : ℕ → ℕ → ℕ → ℕ → ℕ
unfolding full
bytes_of lim m l k = min (l - k * full lim m) (full lim m)

-- Behind the last byte it is the empty packet, which comes from the endpoint's own buffer.
unfoldable pub chain_in : ℕ → ℕ → ℕ → ℕ → ℕ → ℕ → Chain
unfolding full data_chain start_of bytes_of
chain_in lim own m a l k = cond (nat_lt (k * full lim m) l) (data_chain m (start_of lim m a k) (bytes_of lim m l k)) (Sends own 1 0)

-- done at the N-th report
unfoldable pub ideal_in : ℕ → ℕ → ℕ → ℕ → ℕ → Bool → Ideal
unfolding full chain_count chain_in
ideal_in lim own m a l f =
    record {
      done = λ rs. nat_le (chain_count lim m l f) (length rs);
      chain = λ rs. chain_in lim own m a l (length rs);
      result = λ rs. l;
      moved = λ rs. min l (suc (length rs) * full lim m);
    }

-- ---- from the host; l is a positive multiple of m

-- what the reports count, and whether one of them was the last: short, or the one that fills the buffer
pub record Tally : Type 0 where
  pub sum : ℕ
  pub over : Bool

-- how many packets are asked for once g bytes are there
unfoldable pub packets_left : ℕ → ℕ → ℕ → ℕ → ℕ
packets_left lim m l g = min lim ((l - g) / m)

-- the sum g and what a report of the chain that begins there counts
unfoldable pub sum_with : ℕ → ℕ → ℕ → Report → ℕ → ℕ
unfolding packets_left
sum_with lim m l r g = g + reported m (packets_left lim m l g) r.packets r.last

-- a report that brings the sum to g
unfoldable pub tally_more : ℕ → ℕ → Report → ℕ → Tally
tally_more m l r g = record { sum = g; over = nat_lt r.last m || nat_le l g }

-- what comes behind the last one isn't counted
unfoldable pub tally_next : ℕ → ℕ → ℕ → Report → Tally → Tally
unfolding sum_with tally_more
tally_next lim m l r t = cond t.over t (tally_more m l r (sum_with lim m l r t.sum))

unfoldable pub tally : ℕ → ℕ → ℕ → List Report → Tally
unfolding tally_next
tally lim m l [] = record { sum = 0; over = false }
tally lim m l (r ∷ rs) = tally_next lim m l r (tally lim m l rs)

unfoldable pub ideal_out : ℕ → ℕ → ℕ → ℕ → Ideal
unfolding packets_left tally
ideal_out lim m a l =
    record {
      done = λ rs. (tally lim m l rs).over;
      chain = λ rs. Receives (a + (tally lim m l rs).sum) (packets_left lim m l (tally lim m l rs).sum);
      result = λ rs. (tally lim m l rs).sum;
      moved = λ rs. (tally lim m l rs).sum;
    }

-- ---- of a piece, on an endpoint with packets of m bytes and its own buffer at `own`; `true` is IN
unfoldable pub ideal : ℕ → Bool → ℕ → ℕ → Piece → Ideal
unfolding ideal_in ideal_out
ideal lim true own m p = ideal_in lim own m p.address p.length p.zlp
ideal lim false own m p = ideal_out lim m p.address p.length
