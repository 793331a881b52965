-- Lines of scripts, and what they say: full and shortened ones, and damaged ones.
-- Assumes nothing.
use Prim.Native.String.{String}
use Rattle.std.specs.Prelude.{List, [], ◌∷◌, map, ◌≡◌, refl}
use Rattle.tool_lines.specs.Line.{fields, decimal, numberb}
use Rattle.tool_words.specs.declared.Word.{Word}
use Rattle.tool_words.specs.declared.Word.TheVariants.{Unfit, Driver, Allocate, Start, On, Off, Enable, Stall, Stalled, Enabled, Raise, Poll, Reset, Wakeup, Begin, Take, Abandon, Report, Move, Next, Setup, DataOut, TakeOut, DataIn, Accept, AcceptAddress, TakeIn, Reject, Generation, Show}
use Rattle.tool_words.specs.Words.{bytes, meaning_of}
use Rattle.tool_scripts.specs.Script.{number_at, numbers_fit, read_call}

infix 70 ◌says◌
pub record Example : Type 0 where
  pub line : String
  pub says : Word

abbrev ◌says◌ : String → Word → Example
line says call = record { line = line; says = call }

abbrev pub examples : List Example
examples =
    -- each call with all of its numbers
    "driver\t537001984\t65536" says Driver
    ∷ "allocate\t1\t1\t1\t2\t3\t1024\t4\t3\t0\t2" says Allocate
    ∷ "start\t512" says Start
    ∷ "on\t4294967295" says On
    ∷ "off" says Off
    ∷ "enable\t1\t2\t1" says Enable
    ∷ "stall\t1\t2\t1" says Stall
    ∷ "stalled\t1\t2" says Stalled
    ∷ "enabled\t1\t2" says Enabled
    ∷ "raise\t8" says Raise
    ∷ "poll" says Poll
    ∷ "reset" says Reset
    ∷ "wakeup" says Wakeup
    ∷ "begin\t1\t2\t537001984\t1025\t1" says Begin
    ∷ "take\t1\t2" says Take
    ∷ "abandon\t1\t2" says Abandon
    ∷ "report\t1\t2\t255\t65535" says Report
    ∷ "move\t1\t2\t0\t537001984\t1025\t1\t3" says Move
    ∷ "next\t1\t2\t0\t537001984\t1025\t1\t3\t1024" says Next
    ∷ "setup" says Setup
    ∷ "data_out\t7\t537001984\t64" says DataOut
    ∷ "take_out\t7\t537001984\t64\t3" says TakeOut
    ∷ "data_in\t7\t537001984\t64\t1\t0\t3" says DataIn
    ∷ "accept\t7" says Accept
    ∷ "accept_address\t7\t127" says AcceptAddress
    ∷ "take_in\t7" says TakeIn
    ∷ "reject\t7" says Reject
    ∷ "generation\t4294967295" says Generation
    ∷ "state" says Show
    -- numbers left out, leading zeros
    ∷ "allocate\t1" says Allocate
    ∷ "driver" says Driver
    ∷ "begin\t01\t00\t000000000000004294967295" says Begin
    -- one number more
    ∷ "off\t0" says Unfit
    ∷ "wakeup\t0" says Unfit
    ∷ "stall\t1\t2\t1\t0" says Unfit
    ∷ "move\t1\t2\t0\t537001984\t1025\t1\t3\t1024" says Unfit
    ∷ "setup\t0" says Unfit
    ∷ "accept_address\t7\t127\t0" says Unfit
    ∷ "allocate\t1\t1\t1\t2\t3\t1024\t4\t3\t0\t2\t0" says Unfit
    -- no number: nothing, 2^32, a letter, a sign, a carriage return
    ∷ "off\t" says Unfit
    ∷ "stall\t1\t2\t" says Unfit
    ∷ "stall\t1\t\t1" says Unfit
    ∷ "start\t4294967296" says Unfit
    ∷ "start\t51z" says Unfit
    ∷ "start\t-1" says Unfit
    ∷ "start\t512\r" says Unfit
    -- no word of the tables
    ∷ "" says Unfit
    ∷ "\tstall" says Unfit
    ∷ "stal" says Unfit
    ∷ "stalls\t1\t2" says Unfit
    ∷ "Stall\t1\t2\t1" says Unfit
    ∷ "off\r" says Unfit
    ∷ "start 512" says Unfit
    ∷ "show" says Unfit
    ∷ "unfit" says Unfit
    ∷ []

pub said : map (λ (e : Example). read_call (bytes e.line)) examples ≡ map (λ (e : Example). e.says) examples
unfolding fields decimal numberb numbers_fit meaning_of read_call
said = refl

-- the numbers of a line: number 3 is left out
pub numbers : map (number_at (bytes "report\t1\t007\t4294967295")) (0 ∷ 1 ∷ 2 ∷ 3 ∷ 9 ∷ [])
    ≡ (1 ∷ 7 ∷ 4294967295 ∷ 0 ∷ 0 ∷ [])
unfolding fields decimal numberb
numbers = refl
