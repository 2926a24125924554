-- What is pushed under a number is one thing, and what its entries are made of.
use Rattle.std.proofs.Common.{ℕ, min, List, sym, subst, ◌∙◌}
use Rattle.laws_versions.specs.LawfulOrders.{IsMadeOf, HasData}
use Rattle.laws_versions.specs.PushedData.{PushedDataAreTheClients, DataArePushedOnce, KeptDataMakeTheirEntries}
use Rattle.laws_versions.proofs.KeptData.{same_data, sent_was_pushed, kept_was_pushed}
use Rattle.laws_versions.proofs.LawfulOrders.{entry_data}

pub pushed_data_are_the_clients : PushedDataAreTheClients
pushed_data_are_the_clients config servers clients w r =
    (kept_was_pushed config servers clients w r, λ place m at id bytes rest is. sent_was_pushed config servers clients w r m (place, at) id bytes rest is)

pub data_are_pushed_once : DataArePushedOnce
data_are_pushed_once = same_data

pub kept_data_make_their_entries : KeptDataMakeTheirEntries
kept_data_make_their_entries config servers clients w r index s at id bytes kept handle place p there client seq =
    let sized = entry_data config servers clients w r handle place p there in
    let made : HasData (min sized.1 config.chunk) w.sent p = sized.4 in
    let pushed = kept_was_pushed config servers clients w r index s at id bytes kept in (
      sized.0,
      sized.1,
      sized.2,
      subst (λ (bs : List ℕ). IsMadeOf (min sized.1 config.chunk) bs p.entry.mutation)
          (same_data config servers clients w r id made.id bytes made.bytes pushed made.pushed (sym made.client_is ∙ client) (sym made.seq_is ∙ seq)) made.made,
    )
