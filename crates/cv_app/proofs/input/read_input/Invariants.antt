use Rattle.std.proofs.Common.{◌≡◌, ◌≤◌, ◌-◌, length}
use Rattle.cv_io.specs.Streams.{preceded}
use Rattle.cv_app.proofs.input.read_input.Given as goal

abbrev pub invariant-loop-read : goal.invariant-loop-read
invariant-loop-read g l = record {
  within : length l.bytes.items ≤ 1048576;
  told : g.I.Source.content l.fn.input ≡ preceded l.bytes.items (g.I.Source.content l.input);
  quiet : g.I.Source.faults l.input ≡ g.I.Source.faults l.fn.input;
}

abbrev pub decreases-loop-read : goal.decreases-loop-read
decreases-loop-read g l = 1048577 - length l.bytes.items
