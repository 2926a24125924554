use Rattle.std.proofs.Common.{ap, ◌∙◌, subst, sym, IsSome}
use Rattle.data_push.specs.Buffers.{with_data, data_of}
use Rattle.data_push.proofs.Puts.{put_kept, put_within}
use Rattle.data_push.proofs.buffer.Buffer.put.Goals as goal

pub invariant_of-self : goal.invariant_of-self
invariant_of-self g c = put_within c.put.result c.self.inside.kept c.put.new.self c.args.id c.args.bytes c.put.ensures.entries c.put.ensures.err c.self.invariant

pub returns-in-Ok-clause-kept : goal.returns-in-Ok-clause-kept
returns-in-Ok-clause-kept g c =
    put_kept c.self.inside.kept c.put.new.self c.args.id c.args.bytes c.in-Ok.ensures.entries c.self.invariant
    ∙ ap (λ b. with_data b c.args.id c.args.bytes) c.self.view_is

pub returns-clause-in_place : goal.returns-clause-in_place
returns-clause-in_place g c = λ some. c.in-Err.ensures.succeeds (subst (λ b. IsSome (data_of b c.args.id)) (sym c.self.view_is) some)
