-- What records about chunks leave: the same files, and copies of files that are there.
use Rattle.std.proofs.Common.{◌≡◌, ℕ, Bool, true, false, cond, List, [], ◌∷◌, Option, Some, None, refl, sym, ap, ◌∙◌, inl, inr}
use Rattle.std.specs.Prelude.{◌==◌, IfSome}
use Rattle.std.specs.Cmp.{nat_cmp_total, unsigned_tied}
use Rattle.std.proofs.lemmas.Option.{none-some}
use Rattle.std.specs.FinMap as table
use Rattle.gfs_types.specs.declared.ids.FileId.{FileId}
use Rattle.gfs_types.specs.declared.ids.Handle.{Handle}
use Rattle.gfs_types.specs.declared.ids.Version.{Version}
use Rattle.gfs_types.specs.declared.ids.ServerId.{ServerId}
use Rattle.log_records.specs.declared.record.Record.{Record}
use Rattle.log_records.specs.declared.record.Record.TheVariants as log
use Rattle.protocol.specs.Tables.{Table, removed_all}
use Rattle.chunk_table.specs.ChunkTable.{grant}
use Rattle.protocol.specs.Logged.{Logged, Copy, after_record, copies_given_up, swapped_in}
use Rattle.laws_names.specs.NameSteps.{IsOfChunks}
use Rattle.laws_names.proofs.OpenCalls.{put_split}
use Rattle.laws_names.proofs.FilesThere.{put_again}
use Rattle.laws_names.specs.ChunkSteps.{AreCopiesOfFiles}

abbrev pub HasFile : Logged → ℕ → Type 0
HasFile l file = table.contains_key l.table.files file ≡ true

-- both have the same files
abbrev pub AreSameFiles : Logged → Logged → Type 0
AreSameFiles l k = (file : ℕ) → table.contains_key k.table.files file ≡ table.contains_key l.table.files file

-- what such a record leaves
pub record Leaves (l : Logged) (r : Record) : Type 0 where
  pub due : IsOfChunks l r
  pub copied : AreCopiesOfFiles (after_record l r)
  pub files : AreSameFiles l (after_record l r)

left_cases : {X : Type 0} (t : Table X) (k q : ℕ) (x : X) → table.get (table.remove t k) q ≡ Some x → table.get t q ≡ Some x
left_cases {X} t k q x h = split (q == k) (sym (table.get-remove nat_cmp_total t k q ∙ ap (λ b. cond b None (table.get t q)) (unsigned_tied q k)) ∙ h)
  where
    split : (b : Bool) → cond b None (table.get t q) ≡ Some x → table.get t q ≡ Some x
    split true g = absurd (none-some x g)
    split false g = g

removed_cases : {X : Type 0} (t : Table X) (ns : List ℕ) (q : ℕ) (x : X) → table.get (removed_all t ns) q ≡ Some x → table.get t q ≡ Some x
removed_cases t [] q x h = h
removed_cases t (n ∷ ns) q x h = left_cases t n q x (removed_cases (table.remove t n) ns q x h)

pub less_copied : (l : Logged) (handles : List ℕ) → AreCopiesOfFiles l → AreCopiesOfFiles (copies_given_up l handles)
less_copied l handles h handle copy is = h handle copy (removed_cases l.copies handles handle copy is)

pub adds : (l : Logged) (file : FileId) (handle : Handle) → HasFile l file.0 → AreCopiesOfFiles l → Leaves l (log.AddChunk file handle)
adds l file handle has h = record {
  due = has;
  copied = λ at copy is. put_again l.table.files file.0 _ copy.file has ∙ h at copy is;
  files = λ q. put_again l.table.files file.0 _ q has;
}

pub issues : (l : Logged) (handle : Handle) (version : Version) → AreCopiesOfFiles l → Leaves l (log.Issue handle version)
issues l handle version h = record { due = tt; copied = h; files = λ q. refl }

pub starts : (l : Logged) (file : FileId) (index : ℕ) (handle copy : Handle) (version : Version) → HasFile l file.0 → AreCopiesOfFiles l → Leaves l (log.CopyStart file index handle copy version)
starts l file index handle copy version has h = record {
  due = tt;
  copied = λ at other is. elim (put_split l.copies copy.0 _ at other is) [
    | inl new ↦ ap (λ (c : Copy). table.contains_key l.table.files c.file) (sym new.1) ∙ has
    | inr old ↦ h at other old.1
  ];
  files = λ q. refl;
}

swapped : (l : Logged) (handle : ℕ) (o : Option Copy) → table.get l.copies handle ≡ o → AreCopiesOfFiles l → AreCopiesOfFiles (swapped_in l handle o) × AreSameFiles l (swapped_in l handle o)
swapped l handle None is h = (h, λ q. refl)
swapped l handle (Some c) is h = (
  λ at other at_is. put_again l.table.files c.file _ other.file (h handle c is) ∙ h at other (left_cases l.copies handle at other at_is),
  λ q. put_again l.table.files c.file _ q (h handle c is),
)

there_for : (l : Logged) (o : Option Copy) (handle : ℕ) → table.get l.copies handle ≡ o → AreCopiesOfFiles l → IfSome o (λ copy. table.contains_key l.table.files copy.file ≡ true)
there_for l None handle is h = tt
there_for l (Some c) handle is h = h handle c is

pub grants : (l : Logged) (handle : Handle) (version : Version) (primary : ServerId) (members : List ℕ) → AreCopiesOfFiles l → Leaves l (log.Grant handle version primary members)
grants l handle version primary members h =
    let granted : Logged = record l { table = grant l.table handle.0 version.0 primary.0 members } in
    let both = swapped granted handle.0 (table.get l.copies handle.0) refl h in
    record { due = there_for l (table.get l.copies handle.0) handle.0 refl h; copied = both.0; files = both.1 }
