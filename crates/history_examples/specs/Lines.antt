-- A history written out: each call with its answer, and with the chains that it records for endpoint 1.
-- Assumes nothing.
use Rattle.std.specs.Prelude.{true, false, map, List}
use Rattle.history_ideal.specs.Ideal.{Chain, Sends, Receives}
use Rattle.history_ops.specs.Recorded.{Recorded, none, recorded}
use Rattle.usbss.specs.Call.{Call, Answers}
use Rattle.history_rows.specs.Rows.{Row}
use Rattle.history_runs.specs.Runs.{one_noted}

-- the chains to the host, and those from it
pub record Line : Type 0 where
  pub call : Call
  pub answer : Answers call
  pub sends : Recorded
  pub receives : Recorded

-- a call that records no chain there
infix 70 ◌gives◌
abbrev pub ◌gives◌ : (c : Call) → Answers c → Line
c gives a = record { call = c; answer = a; sends = none; receives = none }

-- and one that records this one
infix 68 ◌recording◌
abbrev pub ◌recording◌ : Line → Chain → Line
l recording (Sends b p x) = record l { sends = one_noted (Sends b p x) }
l recording (Receives b p) = record l { receives = one_noted (Receives b p) }

abbrev pub calls_of : List Line → List Call
calls_of ls = map (λ (l : Line). l.call) ls

-- what a row has
abbrev pub line_of : Row → Line
line_of r =
    record {
      call = r.call;
      answer = r.outcome.answer;
      sends = recorded true 1 r.outcome.ops;
      receives = recorded false 1 r.outcome.ops;
    }

abbrev pub lines_of : List Row → List Line
lines_of rs = map line_of rs

-- the calls of rows
abbrev pub calls_in : List Row → List Call
calls_in rs = map (λ (r : Row). r.call) rs
