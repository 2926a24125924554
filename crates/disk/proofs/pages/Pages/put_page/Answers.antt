use Rattle.std.proofs.Common.{◌≡◌, ◌+◌, ◌*◌, ◌<◌, ◌≤◌, ℕ, List, [], ◌∙◌, ap, sym, refl, length, arith, slice_set}
use Rattle.std.proofs.lemmas.Option.{get_or_from_slice_get, slice_get_read}
use Rattle.disk.specs.Bytes.{put_at}
use Rattle.disk.specs.Pages.{PagesState, bytes_of, page_at, page_size}
use Rattle.disk.proofs.Places.{put_in_page}
use Rattle.disk.proofs.pages.Pages.put_page.Goals as goal

pub returns-then-index-len-clause-put : goal.returns-then-index-len-clause-put
returns-then-index-len-clause-put g c =
    let i = c.args.index in
    let w : List ℕ = c.args.bytes.now in
    let pages : List (List ℕ) = c.self.inside.pages.items in
    let p : PagesState = record { size = c.self.inside.size; pages = pages } in
    let is : p ≡ c.args.self.now = c.self.view_is in
    let there : i < length pages = omega (arith, c.if-index-len.true, c.len.ensures, c.self.inside.pages.ok.0) in
    let page : page_at pages i ≡ c.index_mut.result.now = get_or_from_slice_get pages i c.index_mut.result.now [] (slice_get_read pages (length pages) i c.index_mut.result.now refl there c.index_mut.ensures.value) in
    let new : c.put.new.self ≡ put_at (page_at pages i) c.args.place w = c.put.ensures ∙ ap (λ (l : List ℕ). put_at l c.args.place w) (sym page) in
    let taken : c.args.place + length w ≤ length (page_at pages i) = omega (arith, c.requires.taken, ap (λ (q : PagesState). length (page_at q.pages i)) is) in
    let room : i * page_size + c.args.place + length w ≤ p.size = omega (arith, c.requires.room, ap (λ (q : PagesState). q.size) is) in
    ap (λ (l : List ℕ). bytes_of (record { size = p.size; pages = slice_set pages i l })) new
    ∙ put_in_page p i c.args.place w there taken c.requires.within room
    ∙ ap (λ (q : PagesState). put_at (bytes_of q) (i * page_size + c.args.place) w) is
