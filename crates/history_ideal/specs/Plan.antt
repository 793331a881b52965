-- What a transfer that goes as it should amounts to: which bytes are sent, in which packets, where the controller may write, what
-- is counted and when it ends. `l` bytes from `a` on, in packets of `m` bytes, `lim` of them to a chain at most; the flag `f` asks
-- for an empty packet at the end. A list of own reports has the latest first.
-- Assumes nothing.
use Rattle.std.specs.Prelude.{ℕ, zero, suc, ◌+◌, ◌*◌, ◌-◌, ◌/◌, ◌%◌, ◌<◌, ◌≤◌, min, max, Bool, true, false, not, cond, ◌||◌, ◌==◌, nat_lt, nat_le, ◌≡◌, List, [], ◌∷◌, ◌++◌, length, replicate, flat_map, count_by}
use Rattle.base.specs.Ceil.{div_ceil}
use Rattle.transfer_piece.specs.declared.Piece.{Piece}
use Rattle.history_ideal.specs.Ideal.{Chain, Sends, Receives, Report, Ideal, chain_count}

-- the chain that is handed over at the latest report: none where the transfer is then done
unfoldable pub handed : Ideal → List Report → List Chain
handed i rs = cond (i.done rs) [] (i.chain rs ∷ [])

-- all that are handed over by then, the first one first
unfoldable pub chains_of : Ideal → List Report → List Chain
unfolding handed
chains_of i [] = handed i []
chains_of i (r ∷ rs) = chains_of i rs ++ handed i (r ∷ rs)

-- where a chain begins, and how many packets it has
unfoldable pub begins_at : Chain → ℕ
begins_at (Sends b p x) = b
begins_at (Receives b p) = b

unfoldable pub packets_in : Chain → ℕ
packets_in (Sends b p x) = p
packets_in (Receives b p) = p

-- ---- to the host

-- the bytes of the chains before the one that is handed over at the latest report
unfoldable pub before : Ideal → List Report → ℕ
before i [] = 0
before i (r ∷ rs) = i.moved rs

-- a, a + 1, .. : n addresses
unfoldable pub span : ℕ → ℕ → List ℕ
span a zero = []
span a (suc n) = a ∷ span (suc a) n

-- the addresses that a chain has the controller read
unfoldable pub read_by : ℕ → Chain → List ℕ
unfolding span
read_by m (Sends b p x) = span b ((p - 1) * m + x)
read_by m (Receives b p) = []

-- the lengths of a chain's packets: all of m bytes but the last
unfoldable pub packets_of : ℕ → Chain → List ℕ
packets_of m (Sends b p x) = replicate (p - 1) m ++ x ∷ []
packets_of m (Receives b p) = []

abbrev pub read_all : ℕ → List Chain → List ℕ
read_all m cs = flat_map (read_by m) cs

abbrev pub packet_lengths : ℕ → List Chain → List ℕ
packet_lengths m cs = flat_map (packets_of m) cs

-- 1 to lim packets, the last of m bytes at most; an empty packet stands alone
unfoldable pub FairSend : ℕ → ℕ → Chain → Type 0
FairSend lim m (Sends b p x) = (1 ≤ p) × (p ≤ lim) × (x ≤ m) × (x ≡ 0 → p ≡ 1)
FairSend lim m (Receives b p) = ⊥

-- the lengths of the packets of l bytes: whole ones, and what is left in one behind them
abbrev pub data_lengths : ℕ → ℕ → List ℕ
data_lengths m l = replicate (l / m) m ++ cond (l % m == 0) [] (l % m ∷ [])

-- and of all packets: behind those of the bytes the empty one, where there are no bytes or the flag asks for it
abbrev pub all_lengths : ℕ → ℕ → Bool → List ℕ
all_lengths m l f = data_lengths m l ++ cond (l == 0 || f) (0 ∷ []) []

-- The packets of a transfer that is closed as USB has it: a packet of less than m bytes ends the transfer, so none follows one, and
-- the last one is such a packet where `short` says so.
pub record Closed (m : ℕ) (short : Bool) (lengths : List ℕ) : Type 0 where
  pub whole : ℕ
  pub last : ℕ
  pub are : lengths ≡ replicate whole m ++ last ∷ []
  pub ends : cond short (last < m) (last ≡ m)

-- whether the last packet has to be short: the flag asks for it, or the bytes fill no whole packets, or there are none
abbrev pub short_end : ℕ → ℕ → Bool → Bool
short_end m l f = (f || l == 0) || not (l % m == 0)

-- the flag is clear, or the bytes fill whole packets. Else the empty packet that the flag asks for follows the short one.
abbrev pub closed_once : ℕ → ℕ → Bool → Bool
closed_once m l f = not f || l % m == 0

pub record SendsAll (lim m a l : ℕ) (f : Bool) (i : Ideal) : Type 0 where
  -- no transfer is done before its first report
  pub at_first : i.done [] ≡ false
  -- the chains read the buffer's bytes, each once and in order, as far as the transfer has come,
  pub reads : (rs : List Report) → read_all m (chains_of i rs) ≡ span a (i.moved rs)
  -- never past its end,
  pub within : (rs : List Report) → i.moved rs ≤ l
  -- and all of them once it is done; its result tells how many
  pub all : (rs : List Report) → i.done rs ≡ true → (i.moved rs ≡ l) × (i.result rs ≡ l)
  -- a chain begins where the bytes of the earlier ones end, unless none are left,
  pub place : (rs : List Report) → i.done rs ≡ false → before i rs < l → begins_at (i.chain rs) ≡ a + before i rs
  -- has packets for what is left, one at least and `lim` at most,
  pub next : (rs : List Report) → i.done rs ≡ false → packets_in (i.chain rs) ≡ min lim (max 1 (div_ceil (l - before i rs) m))
  -- and is fair
  pub fair : (rs : List Report) → i.done rs ≡ false → FairSend lim m (i.chain rs)
  -- N chains, and done exactly from the N-th report on
  pub many : (rs : List Report) → i.done rs ≡ true → length (chains_of i rs) ≡ chain_count lim m l f
  pub exactly : (rs : List Report) → i.done rs ≡ nat_le (chain_count lim m l f) (length rs)
  -- its packets, in sequence, are these
  pub packets : (rs : List Report) → i.done rs ≡ true → packet_lengths m (chains_of i rs) ≡ all_lengths m l f
  -- so there is one empty packet, if there are no bytes or the flag asks for it, else none
  pub one_empty : (rs : List Report) → i.done rs ≡ true → count_by (λ n. n == 0) (packet_lengths m (chains_of i rs)) ≡ cond (l == 0 || f) 1 0
  -- no packet follows a short one, and the last one is short where it has to be
  pub closed : (rs : List Report) → i.done rs ≡ true → closed_once m l f ≡ true → Closed m (short_end m l f) (packet_lengths m (chains_of i rs))

-- ---- from the host

-- 1 to lim packets, and the room for all of them lies in the l bytes from a on
unfoldable pub FairReceive : ℕ → ℕ → ℕ → ℕ → Chain → Type 0
FairReceive lim m a l (Sends b p x) = ⊥
FairReceive lim m a l (Receives b p) = (1 ≤ p) × (p ≤ lim) × (a ≤ b) × (b + p * m ≤ a + l)

pub record ReceivesWithin (lim m a l : ℕ) (i : Ideal) : Type 0 where
  -- nothing is there at first
  pub at_first : (i.done [] ≡ false) × (i.result [] ≡ 0)
  -- the next chain begins where the received bytes end, and asks for what is missing, up to `lim` packets
  pub next : (rs : List Report) → i.done rs ≡ false → i.chain rs ≡ Receives (a + i.result rs) (min lim ((l - i.result rs) / m))
  pub inside : (rs : List Report) → i.done rs ≡ false → FairReceive lim m a l (i.chain rs)
  -- it is done by the first report that is short or fills the buffer, and stays so
  pub exactly : (r : Report) (rs : List Report) → i.done rs ≡ false → i.done (r ∷ rs) ≡ (nat_lt r.last m || nat_le l (i.result (r ∷ rs)))
  pub stays : (r : Report) (rs : List Report) → i.done rs ≡ true → (i.done (r ∷ rs) ≡ true) × (i.result (r ∷ rs) ≡ i.result rs)
  -- up to then a report adds its packets, held to 1 and to the chain's, as whole ones but the last
  pub adds : (r : Report) (rs : List Report) → i.done rs ≡ false
      → i.result (r ∷ rs) ≡ i.result rs + ((min (packets_in (i.chain rs)) (max 1 r.packets) - 1) * m + min r.last m)
  -- a short packet ends it, whatever was reported before
  pub closed : (r : Report) (rs : List Report) → r.last < m → i.done (r ∷ rs) ≡ true
  -- each report brings a packet at least, or ends it
  pub at_latest : (rs : List Report) → l / m ≤ length rs → i.done rs ≡ true
  pub no_more : (rs : List Report) → i.result rs ≤ l
  -- what a cut one has received is what its reports count
  pub progress : (rs : List Report) → i.moved rs ≡ i.result rs

-- ---- of a piece; `true` is IN
unfoldable pub Planned : ℕ → Bool → ℕ → Piece → Ideal → Type 0
Planned lim true m p i = SendsAll lim m p.address p.length p.zlp i
Planned lim false m p i = ReceivesWithin lim m p.address p.length i
