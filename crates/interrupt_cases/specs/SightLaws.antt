-- Five readings look at a part of what is in sight: what they come to is the same for each EP0 address, revision or sight that
-- they don't look at. By `same` the promise of the function that hears one holds for each of these.
-- Assumes nothing.
use Rattle.std.specs.Prelude.{ℕ, List, ◌≡◌, Result, Some}
use Rattle.std.proofs.Common.{arith, subst}
use Rattle.ops.specs.declared.OpList.{OpList}
use Rattle.state.specs.declared.Awaiting.TheVariants as awaiting
use Rattle.state.specs.declared.Awaited.{Awaited}
use Rattle.state.specs.declared.Reading.{Reading}
use Rattle.state.specs.declared.Refusal.{Refusal}
use Rattle.state.specs.Refusals.{Condition}
use Rattle.interrupt_link.specs.declared.LinkEffect.{LinkEffect}
use Rattle.interrupt_asks.specs.declared.Sight.{Sight}
use Rattle.interrupt_asks.specs.declared.Turn.{Turn}
use Rattle.interrupt_asks.specs.Turns.{Heard, Takes}
use Rattle.interrupt_readings.specs.Matched.{matched_as}
use Rattle.interrupt_readings.specs.Heard.{heard_link}
use Rattle.interrupt_transfer.specs.declared.TransferEffect.{TransferEffect}
use Rattle.interrupt_followers.specs.Pieces.{heard_pieces}

-- what is taken, said otherwise
pub same : {E : Type 0} (l l' : OpList) (own : List Condition) {h k : Heard E} (t : Result (Turn E) Refusal) → h ≡ k → Takes l own h t l'
    → Takes l own k t l'
same {E} l l' own t e p = subst (λ (x : Heard E). Takes l own x t l') e p

module _ (a : Awaited) (f : LinkEffect) where
  -- the port capability: not the revision
  pub capability_sight : (ep0 v w : ℕ) (r : Reading)
      → heard_link ep0 v a f (matched_as (Some awaiting.PortCapability) r) ≡ heard_link ep0 w a f (matched_as (Some awaiting.PortCapability) r)
  unfolding heard_link
  capability_sight ep0 v w r = grind arith

  -- the terminations: neither EP0's address nor the revision
  pub term_sight : (d e v w : ℕ) (r : Reading)
      → heard_link d v a f (matched_as (Some awaiting.TermPresStatus) r) ≡ heard_link e w a f (matched_as (Some awaiting.TermPresStatus) r)
  unfolding heard_link
  term_sight d e v w r = grind arith

  -- a message's word: not EP0's address
  pub message_sight : (d e v : ℕ) (r : Reading)
      → heard_link d v a f (matched_as (Some awaiting.MessageWord) r) ≡ heard_link e v a f (matched_as (Some awaiting.MessageWord) r)
  unfolding heard_link
  message_sight d e v r = grind arith

  -- a warm reset: not the revision
  pub warm_sight : (ep0 v w : ℕ) (r : Reading)
      → heard_link ep0 v a f (matched_as (Some awaiting.WarmResetStatus) r) ≡ heard_link ep0 w a f (matched_as (Some awaiting.WarmResetStatus) r)
  unfolding heard_link
  warm_sight ep0 v w r = grind arith

-- the packets of a chain: what is awaited, and nothing else in sight
pub packets_sight : (f : TransferEffect) (g h : Sight) → g.awaited ≡ h.awaited → (r : Reading)
    → heard_pieces g f (matched_as (Some awaiting.ChainPackets) r) ≡ heard_pieces h f (matched_as (Some awaiting.ChainPackets) r)
unfolding heard_pieces
packets_sight f g h e r = grind arith
