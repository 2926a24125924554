use Rattle.std.proofs.Common.{rules, arith, not}
use Rattle.std.proofs.lemmas.Bool.Decides.{nat_tests}
use Rattle.serve_lines.proofs.WholeLines.{ended, ended_with, few_kept, is_none, kept_with}
use Rattle.serve_lines.proofs.input.read_whole_line.Goals as goal

pub returns-in_default : goal.returns-in_default
returns-in_default g c = ended _ _ _ c.loop.line.items c.in_ok-byte.field-0 c.loop.invariant c.in_ok-byte.ensures (not c.is_empty.result) c.in_default.not-Some
    (is_none c.loop.line.items c.loop.line.len c.is_empty.result (search rules) c.is_empty.ensures)

pub returns-then-byte-eq10 : goal.returns-then-byte-eq10
returns-then-byte-eq10 g c =
    ended_with _ _ _ c.loop.line.items c.in_ok-byte.field-0 c.loop.invariant c.in_ok-byte.ensures c.in-Some.byte c.in-Some.is (grind (arith, nat_tests, c.if-byte-eq10.true))

pub keep-requires : goal.keep-requires
keep-requires g c = few_kept _ _ c.loop.line.items c.loop.invariant

pub loop-preserved : goal.loop-preserved
loop-preserved g c =
    kept_with _ _ _ c.loop.line.items c.in_ok-byte.field-0 c.loop.invariant c.in_ok-byte.ensures c.keep.new.line.items c.in-Some.byte c.in-Some.is (grind (arith, nat_tests, c.if-byte-eq10.false)) c.in_ok-keep.ensures
