-- Where no lock conflicts with reading a path, the path is no source and lies below none.
use Rattle.std.proofs.Common.{◌≡◌, Bool, true, false, ◌&&◌, ◌||◌, List, [], ◌∷◌, length, refl, sym, ap, ◌∙◌, arith}
use Rattle.std.specs.List.{list_any, list_all}
use Rattle.std.specs.Str.{bytes_eq}
use Rattle.std.proofs.lemmas.Bool.{and_parts, or_parts}
use Rattle.gfs_types.specs.Paths.{Path, is_path, is_below, is_at_or_below, trash}
use Rattle.relaxed_file.specs.Locks.{conflict_at}
use Rattle.relaxed_file.specs.NameStep.{is_in_trash}
use Rattle.name_locks.specs.declared.lock_set.Mode.{Mode}
use Rattle.name_locks.specs.declared.lock_set.Mode.TheVariants.{Read, Write}
use Rattle.name_locks.specs.Locks.{sets_clash, clash}
use Rattle.protocol.specs.Master.{PendingSnapshot}
use Rattle.master_waiting.specs.CallLocks.{has_paths, locks_on, locks_of_snapshot}
use Rattle.master_waiting.specs.Concerned.{is_source, is_by_trash}
use Rattle.master_waiting.proofs.Clashes.{any_append, bytes_sym, mode, pair}

-- of the locks of a snapshot those on its source
of_source : (w : Bool) (s : PendingSnapshot) (p : Path) → has_paths s ≡ true → is_path p ≡ true → sets_clash (locks_of_snapshot s) (locks_on (mode w) p) ≡ false
    → conflict_at w p true s.from ≡ false
of_source w s p paths path none =
    let own = and_parts (is_path s.from) (is_path s.to) paths in
    let parts = or_parts (sets_clash (locks_on Write s.from) (locks_on (mode w) p)) (sets_clash (locks_on Write s.to) (locks_on (mode w) p))
    (sym (any_append (λ a. list_any (λ b. clash a b) (locks_on (mode w) p)) (locks_on Write s.from) (locks_on Write s.to)) ∙ none) in
    sym (pair w p s.from path own.0) ∙ parts.0

and_true : (b : Bool) → b ≡ (b && true)
and_true true = refl
and_true false = refl

none_below : (p q : Path) → conflict_at false p true q ≡ false → is_at_or_below q p ≡ false
none_below p q e =
    let parts = or_parts ((bytes_eq p q && true) || false) (is_below q p) e in
    let same = or_parts (bytes_eq p q && true) false parts.0 in
    ap (λ b. b || is_below q p) (and_true (bytes_eq p q) ∙ same.0) ∙ parts.1

pub no_source : (ss : List PendingSnapshot) (path : Path) → list_all has_paths ss ≡ true → is_path path ≡ true
    → list_any (λ s. sets_clash (locks_of_snapshot s) (locks_on Read path)) ss ≡ false → is_source ss path ≡ false
no_source [] path paths lawful none = refl
no_source (s ∷ ss) path paths lawful none =
    let both = and_parts (has_paths s) (list_all has_paths ss) paths in
    let parts = or_parts (sets_clash (locks_of_snapshot s) (locks_on Read path)) (list_any (λ s. sets_clash (locks_of_snapshot s) (locks_on Read path)) ss) none in
    ap (λ b. b || is_source ss path) (none_below path s.from (of_source false s path both.0 lawful parts.0)) ∙ no_source ss path both.1 lawful parts.1

-- the same of the directory of deleted files, with what lies above it and below it
apart_from : (q : Path) → conflict_at true trash true q ≡ false → is_by_trash q ≡ false
apart_from q e =
    let outer = or_parts ((bytes_eq trash q && true) || is_below trash q) (is_below q trash) e in
    let inner = or_parts (bytes_eq trash q && true) (is_below trash q) outer.0 in
    let other : bytes_eq trash q ≡ false = and_true (bytes_eq trash q) ∙ inner.0 in
    ap (λ b. (b || is_below q trash) || is_in_trash q) other
    ∙ ap (λ b. b || is_in_trash q) outer.1
    ∙ ap (λ b. b || is_below trash q) (bytes_sym q trash ∙ other)
    ∙ inner.1

pub none_by_trash : (ss : List PendingSnapshot) → list_all has_paths ss ≡ true → list_any (λ s. sets_clash (locks_of_snapshot s) (locks_on Write trash)) ss ≡ false
    → list_any (λ s. is_by_trash s.from) ss ≡ false
none_by_trash [] paths none = refl
none_by_trash (s ∷ ss) paths none =
    let both = and_parts (has_paths s) (list_all has_paths ss) paths in
    let parts = or_parts (sets_clash (locks_of_snapshot s) (locks_on Write trash)) (list_any (λ s. sets_clash (locks_of_snapshot s) (locks_on Write trash)) ss) none in
    ap (λ b. b || list_any (λ s. is_by_trash s.from) ss) (apart_from s.from (of_source true s trash both.0 refl parts.0)) ∙ none_by_trash ss both.1 parts.1

-- what calls answer
pub none_there : (f : PendingSnapshot → Bool) (ss : List PendingSnapshot) → length ss ≡ 0 → false ≡ list_any f ss
none_there f [] e = refl
none_there f (s ∷ ss) e = absurd (omega (arith, e))

pub not_source : (ss : List PendingSnapshot) (path text : Path) (b : Bool) → path ≡ text → list_all has_paths ss ≡ true → is_path path ≡ true
    → b ≡ list_any (λ s. sets_clash (locks_of_snapshot s) (locks_on Read path)) ss → b ≡ false → false ≡ is_source ss text
not_source ss path text b same paths lawful is none = sym (ap (is_source ss) (sym same) ∙ no_source ss path paths lawful (sym is ∙ none))

pub not_by_trash : (ss : List PendingSnapshot) (path : Path) (b : Bool) → path ≡ trash → list_all has_paths ss ≡ true
    → b ≡ list_any (λ s. sets_clash (locks_of_snapshot s) (locks_on Write path)) ss → b ≡ false → false ≡ list_any (λ s. is_by_trash s.from) ss
not_by_trash ss path b same paths is none =
    sym (none_by_trash ss paths (ap (λ (p : Path). list_any (λ s. sets_clash (locks_of_snapshot s) (locks_on Write p)) ss) (sym same) ∙ sym is ∙ none))
