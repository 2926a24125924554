use Rattle.std.proofs.Common.{◌≡◌, ◌∷◌, ◌++◌, List, ℕ, ap, sym, subst, ◌∙◌, append_assoc, length, arith}
use Rattle.std.specs.List.{AllByRecursion}
use Rattle.log_records.specs.declared.record.Record.{Record}
use Rattle.log_codec.specs.Payloads.{IsWritable}
use Rattle.oplog.specs.Entries.{entries, entry, IsEntry}
use Rattle.oplog.proofs.AreaEntries.{all_put, entries_length, entries_more}
use Rattle.oplog.proofs.area_writing.put_entries.Goals as goal

pub loop-first-preserved : goal.loop-first-preserved
loop-first-preserved c =
    let first = c.in-Some.first.now in
    let others = c.in-Some.others.now in
    let out = c.loop-first.out.items in
    let so_far = c.loop-first.invariant in
    let is : c.loop-first.rest.now ≡ first ∷ others = c.in-Some.ensures.cases.0 in
    let more : entries c.loop-first.rest.now ≡ entry first ++ entries others = ap entries is ∙ entries_more first others in
    record {
      writable = (subst (AllByRecursion IsWritable) is so_far.writable).1;
      bytes = ap (λ (l : List ℕ). l ++ entries others) c.in_ok-put_entry.ensures.bytes ∙ append_assoc out (entry first) (entries others) ∙ sym (ap (λ (l : List ℕ). out ++ l) more) ∙ so_far.bytes;
      stand = λ all. so_far.stand (subst (AllByRecursion IsEntry) (sym is) (c.in_ok-put_entry.ensures.stands, all));
      short = omega (arith, ap (λ (l : List Record). length (entries l)) is, entries_length first others, so_far.short);
    }

pub returns-clause-bytes : goal.returns-clause-bytes
returns-clause-bytes c = all_put c.loop-first.rest.now c.loop-first.out.items (c.args.out.now.items ++ entries c.args.items.now) c.in_default.ensures.cases c.loop-first.invariant.bytes
