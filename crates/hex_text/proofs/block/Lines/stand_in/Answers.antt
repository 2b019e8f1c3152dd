use Rattle.std.proofs.Common.{◌+◌, ◌*◌, ◌<◌, ◌≤◌, length, le-leb, arith}
use borrow.Author.Tests.{lt-leb}
use Rattle.hex_text.specs.Blocks.{are_lines}
use Rattle.hex_text.proofs.block.Lines.stand_in.Goals as goal

pub returns-in_default : goal.returns-in_default
unfolding are_lines
returns-in_default c =
    let self = c.args.self in
    let past : length c.args.s.now < self.start + self.each * self.count = omega arith in
    rw (lt-leb _ _ past)

pub returns-then-end-s : goal.returns-then-end-s
unfolding are_lines
returns-then-end-s c =
    let self = c.args.self in
    let inside : self.start + self.each * self.count ≤ length c.args.s.now = omega arith in
    rw (le-leb _ _ inside) c.each_is_line.ensures

pub returns-else-end-s : goal.returns-else-end-s
unfolding are_lines
returns-else-end-s c =
    let self = c.args.self in
    let past : length c.args.s.now < self.start + self.each * self.count = omega arith in
    let past_end : length c.args.s.now < c.in-Some.end = omega arith in
    rw (lt-leb _ _ past, lt-leb _ _ past_end)
