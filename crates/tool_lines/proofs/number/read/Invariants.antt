-- Each digit in turn: what is left decides on the whole field.
use Rattle.std.proofs.Common.{◌<◌, ◌^◌, length}
use Rattle.tool_lines.specs.Digits.{Reading}
use Rattle.tool_lines.proofs.number.read.Given as goal

abbrev pub invariant-loop-byte : goal.invariant-loop-byte
invariant-loop-byte l = record {
  some : 0 < length l.field;
  small : l.value < 2 ^ 32;
  read : Reading l.field l.byte-index l.value;
}
