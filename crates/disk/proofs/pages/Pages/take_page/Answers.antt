use Rattle.std.proofs.Common.{◌≡◌, ◌-◌, ◌<◌, ◌≤◌, ℕ, List, [], ◌∙◌, ap, sym, refl, length, replicate, arith, length-append, slice_set}
use Rattle.std.specs.Prelude.{slice_index_or}
use Rattle.std.proofs.lemmas.Option.{get_or_from_slice_get, slice_get_read}
use Rattle.disk.specs.Pages.{PagesState, byte_at, has_byte, page_at}
use Rattle.disk.proofs.Places.{byte_same, get_padded, has_more, set_grows, set_same}
use Rattle.disk.proofs.pages.Pages.take_page.Goals as goal

pub returns-clause-same : goal.returns-clause-same
returns-clause-same g c =
    let i = c.args.index in
    let old : List (List ℕ) = c.self.inside.pages.items in
    let pages : List (List ℕ) = c.add_pages.new.pages.items in
    let new : List ℕ = c.grow.new.self in
    let more = length pages - length old in
    let there : i < length pages = omega (arith, c.in_ok-add_pages.ensures.ok) in
    let page : page_at pages i ≡ c.index_mut.result.now = get_or_from_slice_get pages i c.index_mut.result.now [] (slice_get_read pages (length pages) i c.index_mut.result.now refl there c.index_mut.ensures.value) in
    let grown : (o : ℕ) → slice_index_or new o 0 ≡ slice_index_or (page_at pages i) o 0 = λ o.
    ap (λ (l : List ℕ). slice_index_or l o 0) c.grow.ensures.bytes
    ∙ get_padded c.index_mut.result.now (length new - length c.index_mut.result.now) o 0
    ∙ ap (λ (l : List ℕ). slice_index_or l o 0) (sym page) in
    let longer : (j : ℕ) → page_at pages j ≡ page_at old j = λ j. ap (λ (l : List (List ℕ)). page_at l j) c.add_pages.ensures.items ∙ get_padded old more j [] in
    let is : old ≡ c.args.self.now.pages = ap (λ (q : PagesState). q.pages) c.self.view_is in
    λ place. byte_same old (slice_set pages i new) (λ j o. set_same pages i new there grown j o ∙ ap (λ (l : List ℕ). slice_index_or l o 0) (longer j)) place
    ∙ ap (λ (l : List (List ℕ)). byte_at l place) is

pub returns-clause-keeps : goal.returns-clause-keeps
returns-clause-keeps g c =
    let i = c.args.index in
    let old : List (List ℕ) = c.self.inside.pages.items in
    let pages : List (List ℕ) = c.add_pages.new.pages.items in
    let new : List ℕ = c.grow.new.self in
    let more = length pages - length old in
    let there : i < length pages = omega (arith, c.in_ok-add_pages.ensures.ok) in
    let page : page_at pages i ≡ c.index_mut.result.now = get_or_from_slice_get pages i c.index_mut.result.now [] (slice_get_read pages (length pages) i c.index_mut.result.now refl there c.index_mut.ensures.value) in
    let rest : List ℕ = replicate (length new - length c.index_mut.result.now) 0 in
    let grows : length (page_at pages i) ≤ length new = omega (arith, ap length page, ap length c.grow.ensures.bytes, length-append c.index_mut.result.now rest) in
    let longer : (j : ℕ) → page_at pages j ≡ page_at old j = λ j. ap (λ (l : List (List ℕ)). page_at l j) c.add_pages.ensures.items ∙ get_padded old more j [] in
    let is : old ≡ c.args.self.now.pages = ap (λ (q : PagesState). q.pages) c.self.view_is in
    record {
      size = ap (λ (q : PagesState). q.size) c.self.view_is;
      pages = λ place h. has_more old (slice_set pages i new) (λ j. (let same = ap length (longer j) in let all = set_grows pages i new there grows j in omega (arith, same, all))) place
          (ap (λ (l : List (List ℕ)). has_byte l place) is ∙ h);
    }
