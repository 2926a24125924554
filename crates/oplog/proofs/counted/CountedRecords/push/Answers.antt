use Rattle.std.proofs.Common.{◌≡◌, ◌∷◌, ◌++◌, [], Bool, List, length, length-append, refl, sym, ap, ◌∙◌, arith}
use Rattle.std.specs.Prelude.{◌||◌}
use Rattle.std.specs.List.{list_any}
use Rattle.std.proofs.lemmas.List.Recursion.{or_push}
use Rattle.log_codec.specs.Payloads.{has_shape}
use Rattle.log_records.specs.declared.record.Record.{Record}
use Rattle.oplog.proofs.counted.CountedRecords.push.Goals as goal

pub overflow_add-self : goal.overflow_add-self
overflow_add-self c = omega (arith, c.requires, c.self.invariant.0, ap length c.self.view_is)

pub invariant_of-self : goal.invariant_of-self
invariant_of-self c =
    let was = c.self.inside.records.items in
    let entry = c.args.entry.now in
    let more = c.and-self-inside.ensures in (
      omega (arith, c.self.invariant.0, ap length more, length-append was (entry ∷ [])),
      c.is_or_has_shape-self-inside.ensures ∙ ap (λ (b : Bool). b || has_shape entry) c.self.invariant.1
          ∙ sym (or_push (λ (l : List Record). list_any has_shape l) has_shape refl (λ x xs. refl) was entry) ∙ ap (λ (l : List Record). list_any has_shape l) (sym more),
    )

pub returns : goal.returns
returns c =
    c.and-self-inside.ensures ∙ ap (λ (l : List Record). l ++ c.args.entry.now ∷ []) c.self.view_is
