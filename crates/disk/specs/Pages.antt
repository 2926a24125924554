-- Bytes in pages. A page that was never written isn't there, and holds zeros.
use Rattle.std.specs.Prelude.{◌≡◌, ℕ, zero, suc, ◌/◌, ◌%◌, nat_lt, Bool, true, ◌&&◌, List, [], ◌∷◌, length, map, slice_index_or}
use Rattle.std.specs.List.{range_with_len}
use Rattle.disk.specs.Writes.{Write}

-- how many bytes a page has
abbrev pub page_size : ℕ
page_size = 4096

-- how many bytes there are, and the pages that are there
pub record PagesState : Type 0 where
  pub size : ℕ
  pub pages : List (List ℕ)

abbrev pub page_at : List (List ℕ) → ℕ → List ℕ
page_at pages index = slice_index_or pages index []

-- the byte at a place
abbrev pub byte_at : List (List ℕ) → ℕ → ℕ
byte_at pages place = slice_index_or (page_at pages (place / page_size)) (place % page_size) 0

abbrev pub bytes_of : PagesState → List ℕ
bytes_of p = map (byte_at p.pages) (range_with_len 0 p.size)

-- n bytes of a page, from this place on
abbrev pub bytes_in : List ℕ → ℕ → ℕ → List ℕ
bytes_in page at n = map (λ place. slice_index_or page place 0) (range_with_len at n)

-- whether the page of a place is there
abbrev pub has_byte : List (List ℕ) → ℕ → Bool
has_byte pages place = nat_lt (place % page_size) (length (page_at pages (place / page_size)))

-- whether the pages of a range of n bytes are there
abbrev pub has_range : List (List ℕ) → ℕ → ℕ → Bool
has_range pages at zero = true
has_range pages at (suc n) = has_byte pages at && has_range pages (suc at) n

-- whether the pages of these writes are there
abbrev pub all_taken : List (List ℕ) → List Write → Bool
all_taken pages [] = true
all_taken pages (w ∷ ws) = has_range pages w.at (length w.old) && all_taken pages ws

-- The size stays, and no page is given back.
pub record Keeps (old new : PagesState) : Type 0 where
  pub size : new.size ≡ old.size
  pub pages : (place : ℕ) → has_byte old.pages place ≡ true → has_byte new.pages place ≡ true
