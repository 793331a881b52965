-- What operations give to the registers of an endpoint's direction that hold a chain: where it begins, its packets, and of IN
-- its last length (document 01, "The contracts"). The three are kept apart, so one that is given without the others shows.
-- Assumes nothing.
use Rattle.std.specs.Prelude.{ℕ, Bool, true, false, not, ◌&&◌, cond, List, [], ◌∷◌, ◌++◌, eqb, ◌≡◌, Option, Some, None}
use Rattle.ops.specs.declared.numbers.Register.{Register}
use Rattle.ops.specs.Numbers as n
use Rattle.ops.specs.Ops.{Op, Setting, ◌≔◌, write, modify, modify_if_differs, wait, clear_bits}
use Rattle.transfer_chain.specs.declared.Chain.{Chain}
use Rattle.transfer_chain.specs.Chains.{next_chain}
use Rattle.transfer_step.specs.declared.Step.{Step}
use Rattle.transfer_step.specs.declared.Step.TheVariants.{Ignored, GoesOn, Completes}

pub record Recorded : Type 0 where
  pub dma : List ℕ
  pub packets : List ℕ
  pub last : List ℕ

abbrev pub none : Recorded
none = record { dma = []; packets = []; last = [] }

-- one register
abbrev pub same_register : Register → Register → Bool
same_register q r = eqb (n.register_number q) (n.register_number r)

-- the values of settings, whichever fields they are for
abbrev pub values : List Setting → List ℕ
values [] = []
values ((f ≔ v) ∷ ss) = v ∷ values ss

-- the values that an operation of any kind gives to the register r at the index e
unfoldable pub given_by : Register → ℕ → Op → List ℕ
given_by r e (write q i s ss) = cond (same_register q r && eqb i e) (values (s ∷ ss)) []
given_by r e (modify q i s ss) = cond (same_register q r && eqb i e) (values (s ∷ ss)) []
given_by r e (modify_if_differs q i s) = cond (same_register q r && eqb i e) (values (s ∷ [])) []
given_by r e (wait k) = []
given_by r e (clear_bits q i s) = cond (same_register q r && eqb i e) (values (s ∷ [])) []

unfoldable pub given : Register → ℕ → List Op → List ℕ
given r e [] = []
given r e (o ∷ os) = given_by r e o ++ given r e os

unfoldable pub recorded : Bool → ℕ → List Op → Recorded
recorded true e ops = record { dma = given n.tx_dma e ops; packets = given n.tx_chain_exp_nump e ops; last = given n.tx_chain_len e ops }
recorded false e ops = record { dma = given n.rx_dma e ops; packets = given n.rx_chain_max_nump e ops; last = [] }

-- no chain, of any endpoint and direction
abbrev pub Silent : List Op → Type 0
Silent ops = (incoming : Bool) (e : ℕ) → recorded incoming e ops ≡ none

-- ---- a chain handed over

-- as it is recorded
unfoldable pub noted : Bool → Chain → Recorded
noted true k = record { dma = k.dma ∷ []; packets = k.packets ∷ []; last = k.last ∷ [] }
noted false k = record { dma = k.dma ∷ []; packets = k.packets ∷ []; last = [] }

-- whether a direction of an endpoint is another's
abbrev pub same_way : Bool → Bool → Bool
same_way true incoming = incoming
same_way false incoming = not incoming

abbrev pub same_slot : ℕ → Bool → ℕ → Bool → Bool
same_slot i way e incoming = eqb i e && same_way way incoming

-- One chain of endpoint i's direction, or none, as the direction `incoming` of endpoint e sees it recorded.
abbrev pub handed : ℕ → Bool → Option Chain → Bool → ℕ → Recorded
handed i way None incoming e = none
handed i way (Some k) incoming e = cond (same_slot i way e incoming) (noted way k) none

-- the chain that follows a report
abbrev pub follower : ℕ → Bool → Step → Option Chain
follower limit way Ignored = None
follower limit way (GoesOn x) = Some (next_chain limit way x)
follower limit way (Completes x) = None
