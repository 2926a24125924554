use Rattle.std.proofs.Common.{◌≡◌, ◌≤◌, ℕ, List, [], ◌∙◌, ap, length, arith}
use Rattle.std.proofs.lemmas.Bool.Decides.{nat_tests}
use Rattle.std.proofs.lemmas.List.{get_or_past}
use Rattle.disk.specs.Pages.{page_at}
use Rattle.disk.proofs.Places.{zeros_in}
use Rattle.disk.proofs.pages.read_page.Goals as goal

pub returns-in-None : goal.returns-in-None
returns-in-None g c =
    let pages : List (List ℕ) = c.args.pages.now in
    let past : length pages ≤ c.args.index = (let is = c.in-None.ensures.lookup in grind (arith, nat_tests, is)) in
    let none : page_at pages c.args.index ≡ [] = get_or_past pages c.args.index [] past in
    let no_bytes : length (page_at pages c.args.index) ≤ c.args.place = omega (arith, ap length none) in
    c.fill_with_zeros.ensures ∙ zeros_in (page_at pages c.args.index) c.args.place (length c.args.out.now) no_bytes
