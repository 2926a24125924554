use Rattle.std.proofs.Common.{◌≡◌, ℕ, List, ap, ◌∙◌}
use Rattle.std.specs.Prelude.{map}
use Rattle.relaxed_file.specs.Names.{Names, Node, listing}
use Rattle.path_trie.proofs.Outcomes.{if_ok_along}
use Rattle.master_replay.specs.Listing.{named}
use Rattle.master_replay.proofs.Listed.{all_listed}
use Rattle.master_replay.proofs.lists.names_below.Goals as goal

pub returns : goal.returns
returns g c =
    let d = c.args.directory.now in
    if_ok_along c.listed_names.result (λ l. l ≡ map named c.in_ok-children.children.items) (λ l. l ≡ listing c.args.state.now.names d)
    (λ l ok all. all
    ∙ ap (λ (es : List (List ℕ × Node)). map named es) c.in_ok-children.ensures
    ∙ all_listed c.names.result.now d
    ∙ ap (λ (m : Names). listing m d) c.names.ensures)
    c.listed_names.ensures
