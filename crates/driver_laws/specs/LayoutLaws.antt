-- Where the buffers lie, after any list of requests to a new driver.
-- Assumes nothing.
use Rattle.std.specs.Prelude.{ℕ, ◌+◌, ◌*◌, ◌%◌, ◌≤◌, ◌<◌, Bool, true, false, ◌&&◌, not, List, [], ◌∷◌, ◌⊎◌, ◌≡◌, refl, eqb, leb, ltb, length, Option, Some, None, Ok, Err}
use Rattle.std.proofs.Common.{inl, inr, ap, sym, subst, ◌∙◌, mul-le-mul, arith, eqb-true, eq-eqb, leb-true, le-leb, lt-ltb, ltb-false, length-set, get_or-set_same, get_or-set_other}
use Rattle.std.proofs.Math.Nat.{mul-mod_right}
use Rattle.std.proofs.lemmas.Bool.{eqb-false, not-false}
use Rattle.std.proofs.lemmas.List.{length-replicate, get_or-replicate}
use Rattle.state.specs.declared.EndpointType.{EndpointType}
use Rattle.state.specs.declared.EndpointType.TheVariants.{Control, Isochronous, Bulk, Interrupt}
use Rattle.state.specs.declared.Buffer.{Buffer}
use Rattle.state.specs.declared.EndpointConfig.{EndpointConfig}
use Rattle.state.specs.declared.EndpointRequest.{EndpointRequest}
use Rattle.state.specs.declared.Driver.{Driver}
use Rattle.state.specs.Refusals.{Check}
use Rattle.state_slots.specs.Slots.{slot_number, configured, buffer_of}
use Rattle.state.specs.Fresh.{allocation_at}
use Rattle.state.specs.RefusalsLaws.{none_due, not_due}
use Rattle.base.specs.Each.{every}
use Rattle.base.specs.EachLaws.{and_left, and_right, true_not_false}
use Rattle.state_sound.specs.Clauses.{in_ram, aligned}
use Rattle.state_sound.specs.Sound.{configb, driver_soundb}
use Rattle.state_sound.proofs.FactLaws.{InRam, in_ram_lem, in_ram_is, DriverFacts, driver_is}
use Rattle.state_call.specs.Outcome.{or_else}
use Rattle.driver_new.specs.New.{new_conditions, new_check, new_driver, no_driver, new_result, capacity_of}
use Rattle.driver_allocate.specs.Rules.{present, periodic_fits, size_fits, endpoint_for, available, start_for, size_for}
use Rattle.driver_allocate.specs.RulesLaws.{lowest_most, slot_small}
use Rattle.driver_allocate.specs.Allocate.{allocate_check, allocate_at, allocate_result, config_for, driver_with, placed, AcceptedRequest}
use Rattle.driver_allocate.specs.AllocateLaws.{accepted_request}

abbrev pub buffer_at : Driver → ℕ → Buffer
buffer_at d i = buffer_of (allocation_at d i)

abbrev pub allocated : Driver → ℕ → Bool
allocated d i = configured (allocation_at d i)

-- in the driver's memory, behind EP0's 512 bytes and not past what is in use, at a multiple of 4
pub record Within (d : Driver) (b : Buffer) : Type 0 where
  pub behind : d.memory + 512 ≤ b.address
  pub inside : b.address + b.size ≤ d.memory + d.used
  pub even : b.address % 4 ≡ 0

-- no byte in common
abbrev pub Apart : Buffer → Buffer → Type 0
Apart a b = (a.address + a.size ≤ b.address) ⊎ (b.address + b.size ≤ a.address)

pub record Layout (d : Driver) : Type 0 where
  pub facts : DriverFacts d
  pub slots : length d.endpoints ≡ 16
  pub within : (i : ℕ) → i < 16 → allocated d i ≡ true → Within d (buffer_at d i)
  pub apart : (i j : ℕ) → i < 16 → j < 16 → (i ≡ j → ⊥) → allocated d i ≡ true → allocated d j ≡ true → Apart (buffer_at d i) (buffer_at d j)

-- an empty slot has nothing to be wrong
empty_config : (i : ℕ) → configb i None ≡ true
unfolding configb
empty_config i = refl

nothing_in : (b : Bool) {A : Type 0} → b ≡ false → b ≡ true → A
nothing_in b e h = absurd (true_not_false (sym h ∙ e))

-- a new driver
new_layout : (a l : ℕ) → new_check a l ≡ Ok tt → Layout (new_driver a l)
unfolding new_check
new_layout a l h =
    let n1 = not_due (none_due (new_conditions a l) h) in
    let ram : InRam a l = in_ram_lem a l (not-false _ n1.0) in
    let enough : 512 ≤ capacity_of a l = ltb-false _ _ (not_due n1.1).0 in
    let none : (i : ℕ) → i < 16 → allocation_at (new_driver a l) i ≡ None = λ i b. get_or-replicate 16 i None None b in
    record {
      facts =
          record {
            ram = record { low = omega (arith, ram.low); high = omega (arith, ram.high, enough) };
            even = omega arith;
            ep0 = omega arith;
            room = enough;
            configs = λ i b. rw (none i b) (empty_config i);
          };
      slots = length-replicate {A = Option EndpointConfig} 16 None;
      within = λ i b c. nothing_in _ (ap configured (none i b)) c;
      apart = λ i j b b' n c c'. nothing_in _ (ap configured (none i b)) c;
    }

-- what refusal 3 lets through
periodic_in : (m k : ℕ) → periodic_fits m k ≡ true → (1 ≤ m) × (m ≤ 1024)
periodic_in m k h =
    let b = and_left (leb 1 m && leb m 1024) (not (eqb k 0)) h in
    (leb-true _ _ (and_left (leb 1 m) (leb m 1024) b), leb-true _ _ (and_right (leb 1 m) (leb m 1024) b))

size_in : (t : EndpointType) (m k : ℕ) → size_fits present t m k ≡ true → (1 ≤ m) × (m ≤ 1024)
size_in Control m k h = absurd (true_not_false (sym h))
size_in Isochronous m k h = periodic_in m k h
size_in Bulk m k h = let e = eqb-true m 1024 h in (omega (arith, e), omega (arith, e))
size_in Interrupt m k h = periodic_in m k h

-- a burst of packets of at least a byte
burst_some : (m b : ℕ) → 1 ≤ m → 0 < m * (b + 1)
burst_some m b h = let k : 1 ≤ b + 1 = omega arith in omega (arith, mul-le-mul h k)

-- the allocated endpoint is sound where it stands
config_placed : (d : Driver) (incoming : Bool) (r : EndpointRequest) → AcceptedRequest d incoming r
    → configb (slot_number (endpoint_for d incoming r) incoming) (Some (config_for d incoming r)) ≡ true
unfolding configb
config_placed d incoming r a =
    let f = a.driver in
    let m = r.max_packet_size in
    let n = slot_number (endpoint_for d incoming r) incoming in
    let address = d.memory + start_for d in
    let size = size_for r in
    let fit = size_in r.ep_type m r.interval_ms a.size in
    let named : eqb n n ≡ true = eq-eqb n n refl in
    let low : leb 1 m ≡ true = le-leb _ _ fit.0 in
    let high : leb m 1024 ≡ true = le-leb _ _ fit.1 in
    let ram : in_ram address size ≡ true = in_ram_is address size (record { low = omega (arith, f.ram.low); high = omega (arith, f.ram.high, a.room) }) in
    let by4 : address % 4 ≡ 0 = omega (arith, f.even) in
    let even : aligned address ≡ true = eq-eqb _ _ by4 in
    let some : ltb 0 size ≡ true = lt-ltb _ _ (burst_some m r.max_burst fit.0) in
    let whole : eqb (size % m) 0 ≡ true = eq-eqb _ _ (mul-mod_right m (r.max_burst + 1)) in
    rw (named, low, high, ram, even, some, whole)

module _ (d : Driver) (incoming : Bool) (r : EndpointRequest) (a : AcceptedRequest d incoming r) (sixteen : length d.endpoints ≡ 16) where
  abbrev here : ℕ
  here = slot_number (endpoint_for d incoming r) incoming

  abbrev there : Driver
  there = driver_with d incoming r

  here_in : here < 16
  here_in = slot_small (endpoint_for d incoming r) incoming (lowest_most (available d incoming r.endpoint) 7)

  -- slot by slot: the new one, and the others as they were
  at_here : allocation_at there here ≡ Some (config_for d incoming r)
  at_here = get_or-set_same d.endpoints here _ None (rw sixteen here_in)

  elsewhere : (i : ℕ) → (i ≡ here → ⊥) → allocation_at there i ≡ allocation_at d i
  elsewhere i n = get_or-set_other d.endpoints here i _ None n

  new_within : Within there (config_for d incoming r).buffer
  new_within = record { behind = omega (arith, a.driver.ep0); inside = omega arith; even = omega (arith, a.driver.even) }

  still_within : (b : Buffer) → Within d b → Within there b
  still_within b w = record { behind = w.behind; inside = omega (arith, w.inside); even = w.even }

  before_new : (b : Buffer) → Within d b → b.address + b.size ≤ (config_for d incoming r).buffer.address
  before_new b w = omega (arith, w.inside)

  -- what holds of the new slot and of each other holds of all
  by_slot : (P : ℕ → Option EndpointConfig → Type 0) → P here (Some (config_for d incoming r)) → ((i : ℕ) → (i ≡ here → ⊥) → i < 16 → P i (allocation_at d i))
      → (i : ℕ) → i < 16 → P i (allocation_at there i)
  by_slot P new old i b = go (eqb i here) refl
    where
      go : (t : Bool) → eqb i here ≡ t → P i (allocation_at there i)
      go true e = rw (eqb-true i here e, at_here) new
      go false e = rw (elsewhere i (eqb-false i here e)) (old i (eqb-false i here e) b)

  with_facts : DriverFacts there
  with_facts =
      record {
        ram = a.driver.ram;
        even = a.driver.even;
        ep0 = omega (arith, a.driver.ep0);
        room = a.room;
        configs = by_slot (λ i x. configb i x ≡ true) (config_placed d incoming r a) (λ i n b. a.driver.configs i b);
      }

  -- the new buffer and any other, and two others
  new_apart : Layout d → (j : ℕ) → j < 16 → (here ≡ j → ⊥) → allocated there j ≡ true → Apart (config_for d incoming r).buffer (buffer_at there j)
  new_apart l =
      by_slot (λ j y. (here ≡ j → ⊥) → configured y ≡ true → Apart (config_for d incoming r).buffer (buffer_of y))
      (λ n c. absurd (n refl))
      (λ j m b n c. inr (before_new (buffer_at d j) (l.within j b c)))

  old_apart : Layout d → (i : ℕ) → i < 16 → allocated d i ≡ true → (j : ℕ) → j < 16 → (i ≡ j → ⊥) → allocated there j ≡ true → Apart (buffer_at d i) (buffer_at there j)
  old_apart l i b c =
      by_slot (λ j y. (i ≡ j → ⊥) → configured y ≡ true → Apart (buffer_at d i) (buffer_of y))
      (λ n c'. inl (before_new (buffer_at d i) (l.within i b c)))
      (λ j m b' n c'. l.apart i j b b' n c c')

  with_layout : Layout d → Layout there
  with_layout l =
      record {
        facts = with_facts;
        slots = length-set d.endpoints here _ ∙ sixteen;
        within = by_slot (λ i x. configured x ≡ true → Within there (buffer_of x)) (λ c. new_within) (λ i n b c. still_within (buffer_at d i) (l.within i b c));
        apart =
            λ i j b b' n c c'.
            by_slot (λ i x. configured x ≡ true → (i ≡ j → ⊥) → Apart (buffer_of x) (buffer_at there j))
            (λ c n. new_apart l j b' n c')
            (λ i m b c n. old_apart l i b c j b' n c')
            i
            b
            c
            n;
      }

-- a request, and the direction it is made for
pub record Ask : Type 0 where
  pub incoming : Bool
  pub request : EndpointRequest

-- the driver after one request after the other, refused ones among them
abbrev pub after : Driver → List Ask → Driver
after d [] = d
after d (q ∷ qs) = after (allocate_result d q.incoming q.request).driver qs

allocate_layout : (d : Driver) (incoming : Bool) (r : EndpointRequest) → Layout d → Layout (allocate_result d incoming r).driver
unfolding allocate_result placed or_else
allocate_layout d incoming r l = go (allocate_check d incoming r) refl
  where
    go : (c : Check) → allocate_check d incoming r ≡ c → Layout (allocate_at c d incoming r).driver
    go (Ok tt) e = with_layout d incoming r (accepted_request d incoming r e) l.slots l
    go (Err q) e = l

-- Any sound driver is left sound, its layout whatever it is.
pub allocate_keeps_sound : (d : Driver) (incoming : Bool) (r : EndpointRequest) → length d.endpoints ≡ 16 → driver_soundb d ≡ true
    → driver_soundb (allocate_result d incoming r).driver ≡ true
unfolding allocate_result placed or_else
allocate_keeps_sound d incoming r sixteen h = go (allocate_check d incoming r) refl
  where
    go : (c : Check) → allocate_check d incoming r ≡ c → driver_soundb (allocate_at c d incoming r).driver ≡ true
    go (Ok tt) e = driver_is (driver_with d incoming r) (with_facts d incoming r (accepted_request d incoming r e) sixteen)
    go (Err q) e = h

asks_layout : (d : Driver) (qs : List Ask) → Layout d → Layout (after d qs)
asks_layout d [] l = l
asks_layout d (q ∷ qs) l = asks_layout (allocate_result d q.incoming q.request).driver qs (allocate_layout d q.incoming q.request l)

made : (address length : ℕ) (d : Driver) → new_result address length ≡ Ok d → Layout d
unfolding new_result or_else
made address length d = go (new_check address length) refl
  where
    go : (c : Check) → new_check address length ≡ c → or_else c Err (Ok (new_driver address length)) ≡ Ok d → Layout d
    go (Ok tt) h e = let same : new_driver address length ≡ d = cc in subst Layout same (new_layout address length h)
    go (Err r) h e = absurd (cc)

-- Whatever is asked of a new driver, its buffers lie apart, in its memory, behind EP0's, at multiples of 4.
pub every_layout : (address length : ℕ) (d : Driver) → new_result address length ≡ Ok d → (qs : List Ask) → Layout (after d qs)
every_layout address length d h qs = asks_layout d qs (made address length d h)

-- And it is sound.
pub every_driver_sound : (address length : ℕ) (d : Driver) → new_result address length ≡ Ok d → (qs : List Ask) → driver_soundb (after d qs) ≡ true
every_driver_sound address length d h qs = driver_is _ (every_layout address length d h qs).facts

-- The driver without memory is unsound, so that no call takes it.
pub no_driver_unsound : driver_soundb no_driver ≡ false
unfolding driver_soundb every
no_driver_unsound = refl
