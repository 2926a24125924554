-- What is read is a record's bytes, and a record's bytes are read again.
use Rattle.std.proofs.Common.{◌≡◌, ℕ, Bool, true, false, cond, eqb, List, [], ◌∷◌, ◌++◌, length, Option, Some, None, Result, Ok, Err, refl, sym, ap, subst, ◌∙◌}
use Rattle.std.specs.Prelude.{IfOk}
use Rattle.std.proofs.lemmas.Bool.{eqb-true}
use Rattle.std.proofs.lemmas.List.{append-nil, nil_from_length}
use Rattle.log_records.specs.declared.record.Record.{Record}
use Rattle.log_records.specs.declared.record.Record.TheVariants as log
use Rattle.log_codec.specs.declared.fault.DecodeFault.{DecodeFault}
use Rattle.log_codec.specs.Payloads.{payload, IsRecord}
use Rattle.log_codec.specs.Reading.{Gives, Reader, all_of}
use Rattle.log_codec.specs.Records.{epoch_in, mkdir_in, rmdir_in, create_in, delete_in, rename_in, snapshot_in, refused_in, expired_in, add_chunk_in, issue_in, grant_in, copy_start_in, counters_in, dir_in, file_in, chunk_in, client_in, shaped_create_in, shaped_file_in, record_tagged, record_in}
use Rattle.log_codec.proofs.Fields.{IsBytes, IsBytes-rest, bind_some, IsField, both_are, number_is, index_is, server_is, shape_is}
use Rattle.log_codec.proofs.Lists.{path_is, members_are, handles_are}
use Rattle.log_codec.proofs.Refusals.{refusal_is, outcome_is}

chosen_is : (b : Bool) (x y : Record) → cond b (Some x) None ≡ Some y → (b ≡ true) × (x ≡ y)
chosen_is true x y e = (refl, cc)
chosen_is false x y e = absurd cc

-- the fields that all of the bytes are
abbrev Spells : {A : Type 0} → (A → List ℕ) → (A → Type 0) → (A → Record) → List ℕ → Record → Type 0
Spells {A = A} write Fits make bytes y = (x : A) × (make x ≡ y) × (bytes ≡ write x) × Fits x

whole_takes : {A : Type 0} {w : A → List ℕ} {f : A → Type 0} {r : Reader A} → IsField w f r → (make : A → Record) (bytes : List ℕ) (y : Record) → IsBytes bytes → all_of r make bytes ≡ Some y → Spells w f make bytes y
whole_takes {w = w} {r = r} p make bytes y fits e =
    let a = bind_some (r bytes) (λ x. cond (eqb (length x.1) 0) (Some (make x.0)) None) y e in
    let g = chosen_is (eqb (length a.0.1) 0) (make a.0.0) y a.2 in
    let t = p.takes bytes a.0 fits a.1 in
    let nothing : a.0.1 ≡ [] = nil_from_length a.0.1 (eqb-true _ _ g.0) in
    (a.0.0, g.1, t.0.parts ∙ ap (λ (rest : List ℕ). w a.0.0 ++ rest) nothing ∙ append-nil (w a.0.0), t.1)

whole_again : {A : Type 0} {w : A → List ℕ} {f : A → Type 0} {r : Reader A} → IsField w f r → (make : A → Record) (x : A) → f x → all_of r make (w x) ≡ Some (make x)
whole_again {w = w} {r = r} p make x fits = ap (all_of r make) (sym (append-nil (w x))) ∙ rw (p.again x [] fits) refl

abbrev IsFound : ℕ → List ℕ → Record → Type 0
IsFound tag rest y = IsRecord y × (tag ∷ rest ≡ payload y)

epoch_found : (rest : List ℕ) (y : Record) → IsBytes rest → epoch_in rest ≡ Some y → IsFound 1 rest y
unfolding epoch_in
epoch_found rest y fits e =
    let t = whole_takes number_is (λ x. log.Epoch x) rest y fits e in
    subst (λ z. IsFound 1 rest z) t.1 (t.3, ap (λ (b : List ℕ). 1 ∷ b) t.2)

mkdir_found : (rest : List ℕ) (y : Record) → IsBytes rest → mkdir_in rest ≡ Some y → IsFound 2 rest y
unfolding mkdir_in
mkdir_found rest y fits e =
    let t = whole_takes (both_are (both_are number_is number_is) path_is) (λ x. log.Mkdir (record { 0 = x.0.0 }) x.0.1 x.1) rest y fits e in
    subst (λ z. IsFound 2 rest z) t.1 ((t.3.0.0, t.3.0.1, t.3.1), ap (λ (b : List ℕ). 2 ∷ b) t.2)

rmdir_found : (rest : List ℕ) (y : Record) → IsBytes rest → rmdir_in rest ≡ Some y → IsFound 3 rest y
unfolding rmdir_in
rmdir_found rest y fits e =
    let t = whole_takes (both_are (both_are number_is number_is) path_is) (λ x. log.Rmdir (record { 0 = x.0.0 }) x.0.1 x.1) rest y fits e in
    subst (λ z. IsFound 3 rest z) t.1 ((t.3.0.0, t.3.0.1, t.3.1), ap (λ (b : List ℕ). 3 ∷ b) t.2)

create_found : (rest : List ℕ) (y : Record) → IsBytes rest → create_in rest ≡ Some y → IsFound 4 rest y
unfolding create_in
create_found rest y fits e =
    let t = whole_takes (both_are (both_are (both_are number_is number_is) number_is) path_is) (λ x. log.Create (record { 0 = x.0.0.0 }) x.0.0.1 (record { 0 = x.0.1 }) None x.1) rest y fits e in
    subst (λ z. IsFound 4 rest z) t.1 ((t.3.0.0.0, t.3.0.0.1, t.3.0.1, t.3.1), ap (λ (b : List ℕ). 4 ∷ b) t.2)

shaped_create_found : (rest : List ℕ) (y : Record) → IsBytes rest → shaped_create_in rest ≡ Some y → IsFound 15 rest y
unfolding shaped_create_in
shaped_create_found rest y fits e =
    let fields = both_are (both_are (both_are (both_are number_is number_is) number_is) shape_is) path_is in
    let t = whole_takes fields (λ x. log.Create (record { 0 = x.0.0.0.0 }) x.0.0.0.1 (record { 0 = x.0.0.1 }) (Some x.0.1) x.1) rest y fits e in
    subst (λ z. IsFound 15 rest z) t.1 ((t.3.0.0.0.0, t.3.0.0.0.1, t.3.0.0.1, t.3.0.1, t.3.1), ap (λ (b : List ℕ). 15 ∷ b) t.2)

delete_found : (rest : List ℕ) (y : Record) → IsBytes rest → delete_in rest ≡ Some y → IsFound 5 rest y
unfolding delete_in
delete_found rest y fits e =
    let t = whole_takes (both_are (both_are (both_are number_is number_is) number_is) path_is) (λ x. log.Delete (record { 0 = x.0.0.0 }) x.0.0.1 (record { 0 = x.0.1 }) x.1) rest y fits e in
    subst (λ z. IsFound 5 rest z) t.1 ((t.3.0.0.0, t.3.0.0.1, t.3.0.1, t.3.1), ap (λ (b : List ℕ). 5 ∷ b) t.2)

rename_found : (rest : List ℕ) (y : Record) → IsBytes rest → rename_in rest ≡ Some y → IsFound 6 rest y
unfolding rename_in
rename_found rest y fits e =
    let t = whole_takes (both_are (both_are (both_are number_is number_is) path_is) path_is) (λ x. log.Rename (record { 0 = x.0.0.0 }) x.0.0.1 x.0.1 x.1) rest y fits e in
    subst (λ z. IsFound 6 rest z) t.1 ((t.3.0.0.0, t.3.0.0.1, t.3.0.1, t.3.1), ap (λ (b : List ℕ). 6 ∷ b) t.2)

snapshot_found : (rest : List ℕ) (y : Record) → IsBytes rest → snapshot_in rest ≡ Some y → IsFound 7 rest y
unfolding snapshot_in
snapshot_found rest y fits e =
    let t = whole_takes (both_are (both_are (both_are number_is number_is) path_is) path_is) (λ x. log.Snapshot (record { 0 = x.0.0.0 }) x.0.0.1 x.0.1 x.1) rest y fits e in
    subst (λ z. IsFound 7 rest z) t.1 ((t.3.0.0.0, t.3.0.0.1, t.3.0.1, t.3.1), ap (λ (b : List ℕ). 7 ∷ b) t.2)

refused_found : (rest : List ℕ) (y : Record) → IsBytes rest → refused_in rest ≡ Some y → IsFound 8 rest y
unfolding refused_in
refused_found rest y fits e =
    let t = whole_takes (both_are (both_are number_is number_is) refusal_is) (λ x. log.Refused (record { 0 = x.0.0 }) x.0.1 x.1) rest y fits e in
    subst (λ z. IsFound 8 rest z) t.1 ((t.3.0.0, t.3.0.1), ap (λ (b : List ℕ). 8 ∷ b) t.2)

expired_found : (rest : List ℕ) (y : Record) → IsBytes rest → expired_in rest ≡ Some y → IsFound 9 rest y
unfolding expired_in
expired_found rest y fits e =
    let t = whole_takes number_is (λ x. log.Expired (record { 0 = x })) rest y fits e in
    subst (λ z. IsFound 9 rest z) t.1 (t.3, ap (λ (b : List ℕ). 9 ∷ b) t.2)

add_chunk_found : (rest : List ℕ) (y : Record) → IsBytes rest → add_chunk_in rest ≡ Some y → IsFound 10 rest y
unfolding add_chunk_in
add_chunk_found rest y fits e =
    let t = whole_takes (both_are number_is number_is) (λ x. log.AddChunk (record { 0 = x.0 }) (record { 0 = x.1 })) rest y fits e in
    subst (λ z. IsFound 10 rest z) t.1 ((t.3.0, t.3.1), ap (λ (b : List ℕ). 10 ∷ b) t.2)

issue_found : (rest : List ℕ) (y : Record) → IsBytes rest → issue_in rest ≡ Some y → IsFound 11 rest y
unfolding issue_in
issue_found rest y fits e =
    let t = whole_takes (both_are number_is number_is) (λ x. log.Issue (record { 0 = x.0 }) (record { 0 = x.1 })) rest y fits e in
    subst (λ z. IsFound 11 rest z) t.1 ((t.3.0, t.3.1), ap (λ (b : List ℕ). 11 ∷ b) t.2)

grant_found : (rest : List ℕ) (y : Record) → IsBytes rest → grant_in rest ≡ Some y → IsFound 12 rest y
unfolding grant_in
grant_found rest y fits e =
    let t = whole_takes (both_are (both_are (both_are number_is number_is) server_is) members_are) (λ x. log.Grant (record { 0 = x.0.0.0 }) (record { 0 = x.0.0.1 }) (record { 0 = x.0.1 }) x.1) rest y fits e in
    subst (λ z. IsFound 12 rest z) t.1 ((t.3.0.0.0, t.3.0.0.1, t.3.0.1, t.3.1), ap (λ (b : List ℕ). 12 ∷ b) t.2)

copy_start_found : (rest : List ℕ) (y : Record) → IsBytes rest → copy_start_in rest ≡ Some y → IsFound 13 rest y
unfolding copy_start_in
copy_start_found rest y fits e =
    let t = whole_takes (both_are (both_are (both_are (both_are number_is index_is) number_is) number_is) number_is) (λ x. log.CopyStart (record { 0 = x.0.0.0.0 }) x.0.0.0.1 (record { 0 = x.0.0.1 }) (record { 0 = x.0.1 }) (record { 0 = x.1 })) rest y fits e in
    subst (λ z. IsFound 13 rest z) t.1 ((t.3.0.0.0.0, t.3.0.0.0.1, t.3.0.0.1, t.3.0.1, t.3.1), ap (λ (b : List ℕ). 13 ∷ b) t.2)

counters_found : (rest : List ℕ) (y : Record) → IsBytes rest → counters_in rest ≡ Some y → IsFound 20 rest y
unfolding counters_in
counters_found rest y fits e =
    let t = whole_takes (both_are (both_are number_is number_is) number_is) (λ x. log.Counters (record { 0 = x.0.0 }) (record { 0 = x.0.1 }) x.1) rest y fits e in
    subst (λ z. IsFound 20 rest z) t.1 ((t.3.0.0, t.3.0.1, t.3.1), ap (λ (b : List ℕ). 20 ∷ b) t.2)

dir_found : (rest : List ℕ) (y : Record) → IsBytes rest → dir_in rest ≡ Some y → IsFound 21 rest y
unfolding dir_in
dir_found rest y fits e =
    let t = whole_takes path_is (λ x. log.DirItem x) rest y fits e in
    subst (λ z. IsFound 21 rest z) t.1 (t.3, ap (λ (b : List ℕ). 21 ∷ b) t.2)

file_found : (rest : List ℕ) (y : Record) → IsBytes rest → file_in rest ≡ Some y → IsFound 22 rest y
unfolding file_in
file_found rest y fits e =
    let t = whole_takes (both_are (both_are path_is number_is) handles_are) (λ x. log.FileItem x.0.0 (record { 0 = x.0.1 }) None x.1) rest y fits e in
    subst (λ z. IsFound 22 rest z) t.1 ((t.3.0.0, t.3.0.1, t.3.1), ap (λ (b : List ℕ). 22 ∷ b) t.2)

shaped_file_found : (rest : List ℕ) (y : Record) → IsBytes rest → shaped_file_in rest ≡ Some y → IsFound 25 rest y
unfolding shaped_file_in
shaped_file_found rest y fits e =
    let fields = both_are (both_are (both_are path_is number_is) shape_is) handles_are in
    let t = whole_takes fields (λ x. log.FileItem x.0.0.0 (record { 0 = x.0.0.1 }) (Some x.0.1) x.1) rest y fits e in
    subst (λ z. IsFound 25 rest z) t.1 ((t.3.0.0.0, t.3.0.0.1, t.3.0.1, t.3.1), ap (λ (b : List ℕ). 25 ∷ b) t.2)

chunk_found : (rest : List ℕ) (y : Record) → IsBytes rest → chunk_in rest ≡ Some y → IsFound 23 rest y
unfolding chunk_in
chunk_found rest y fits e =
    let t = whole_takes (both_are (both_are (both_are (both_are number_is number_is) number_is) server_is) members_are) (λ x. log.ChunkItem (record { 0 = x.0.0.0.0 }) (record { 0 = x.0.0.0.1 }) (record { 0 = x.0.0.1 }) (record { 0 = x.0.1 }) x.1) rest y fits e in
    subst (λ z. IsFound 23 rest z) t.1 ((t.3.0.0.0.0, t.3.0.0.0.1, t.3.0.0.1, t.3.0.1, t.3.1), ap (λ (b : List ℕ). 23 ∷ b) t.2)

client_found : (rest : List ℕ) (y : Record) → IsBytes rest → client_in rest ≡ Some y → IsFound 24 rest y
unfolding client_in
client_found rest y fits e =
    let t = whole_takes (both_are (both_are number_is number_is) outcome_is) (λ x. log.ClientItem (record { 0 = x.0.0 }) x.0.1 x.1) rest y fits e in
    subst (λ z. IsFound 24 rest z) t.1 ((t.3.0.0, t.3.0.1), ap (λ (b : List ℕ). 24 ∷ b) t.2)

picked : (t : Bool) (tag k : ℕ) (a b : Option Record) (rest : List ℕ) (y : Record) → eqb tag k ≡ t → (a ≡ Some y → IsFound k rest y) → (b ≡ Some y → IsFound tag rest y) → cond t a b ≡ Some y → IsFound tag rest y
picked true tag k a b rest y same here there e = subst (λ i. IsFound i rest y) (sym (eqb-true tag k same)) (here e)
picked false tag k a b rest y same here there e = there e

pick : (tag k : ℕ) (a b : Option Record) (rest : List ℕ) (y : Record) → (a ≡ Some y → IsFound k rest y) → (b ≡ Some y → IsFound tag rest y) → cond (eqb tag k) a b ≡ Some y → IsFound tag rest y
pick tag k a b rest y here there e = picked (eqb tag k) tag k a b rest y refl here there e

tagged_found : (tag : ℕ) (rest : List ℕ) (y : Record) → IsBytes rest → record_tagged tag rest ≡ Some y → IsFound tag rest y
unfolding record_tagged
tagged_found tag rest y fits e =
    pick tag 1 (epoch_in rest) _ rest y (epoch_found rest y fits) (λ h1.
    pick tag 2 (mkdir_in rest) _ rest y (mkdir_found rest y fits) (λ h2.
    pick tag 3 (rmdir_in rest) _ rest y (rmdir_found rest y fits) (λ h3.
    pick tag 4 (create_in rest) _ rest y (create_found rest y fits) (λ h4.
    pick tag 5 (delete_in rest) _ rest y (delete_found rest y fits) (λ h5.
    pick tag 6 (rename_in rest) _ rest y (rename_found rest y fits) (λ h6.
    pick tag 7 (snapshot_in rest) _ rest y (snapshot_found rest y fits) (λ h7.
    pick tag 8 (refused_in rest) _ rest y (refused_found rest y fits) (λ h8.
    pick tag 9 (expired_in rest) _ rest y (expired_found rest y fits) (λ h9.
    pick tag 10 (add_chunk_in rest) _ rest y (add_chunk_found rest y fits) (λ h10.
    pick tag 11 (issue_in rest) _ rest y (issue_found rest y fits) (λ h11.
    pick tag 12 (grant_in rest) _ rest y (grant_found rest y fits) (λ h12.
    pick tag 13 (copy_start_in rest) _ rest y (copy_start_found rest y fits) (λ h13.
    pick tag 15 (shaped_create_in rest) _ rest y (shaped_create_found rest y fits) (λ h15.
    pick tag 20 (counters_in rest) _ rest y (counters_found rest y fits) (λ h20.
    pick tag 21 (dir_in rest) _ rest y (dir_found rest y fits) (λ h21.
    pick tag 22 (file_in rest) _ rest y (file_found rest y fits) (λ h22.
    pick tag 23 (chunk_in rest) _ rest y (chunk_found rest y fits) (λ h23.
    pick tag 24 (client_in rest) _ rest y (client_found rest y fits) (λ h24.
    pick tag 25 (shaped_file_in rest) _ rest y (shaped_file_found rest y fits) (λ h25.
    absurd cc) h24) h23) h22) h21) h20) h15) h13) h12) h11) h10) h9) h8) h7) h6) h5) h4) h3) h2) h1) e

record_found : (bytes : List ℕ) (y : Record) → IsBytes bytes → record_in bytes ≡ Some y → IsRecord y × (bytes ≡ payload y)
unfolding record_in
record_found [] y fits e = absurd cc
record_found (tag ∷ rest) y fits e = tagged_found tag rest y (IsBytes-rest tag rest fits) e

pub record_again : (r : Record) → IsRecord r → record_in (payload r) ≡ Some r
unfolding record_in record_tagged epoch_in mkdir_in rmdir_in create_in delete_in rename_in snapshot_in refused_in expired_in add_chunk_in issue_in grant_in copy_start_in counters_in dir_in file_in chunk_in client_in shaped_create_in shaped_file_in
record_again (log.Epoch epoch) fits = whole_again number_is (λ x. log.Epoch x) epoch fits
record_again (log.Mkdir client call p) fits = whole_again (both_are (both_are number_is number_is) path_is) (λ x. log.Mkdir (record { 0 = x.0.0 }) x.0.1 x.1) ((client.0, call), p) ((fits.0, fits.1), fits.2)
record_again (log.Rmdir client call p) fits = whole_again (both_are (both_are number_is number_is) path_is) (λ x. log.Rmdir (record { 0 = x.0.0 }) x.0.1 x.1) ((client.0, call), p) ((fits.0, fits.1), fits.2)
record_again (log.Create client call file None p) fits =
    let fields = both_are (both_are (both_are number_is number_is) number_is) path_is in
    whole_again fields (λ x. log.Create (record { 0 = x.0.0.0 }) x.0.0.1 (record { 0 = x.0.1 }) None x.1) (((client.0, call), file.0), p) (((fits.0, fits.1), fits.2), fits.3)
record_again (log.Create client call file (Some s) p) fits =
    let fields = both_are (both_are (both_are (both_are number_is number_is) number_is) shape_is) path_is in
    whole_again fields (λ x. log.Create (record { 0 = x.0.0.0.0 }) x.0.0.0.1 (record { 0 = x.0.0.1 }) (Some x.0.1) x.1)
    ((((client.0, call), file.0), s), p) ((((fits.0, fits.1), fits.2), fits.3), fits.4)
record_again (log.Delete client call moment p) fits = whole_again (both_are (both_are (both_are number_is number_is) number_is) path_is) (λ x. log.Delete (record { 0 = x.0.0.0 }) x.0.0.1 (record { 0 = x.0.1 }) x.1) (((client.0, call), moment.0), p) (((fits.0, fits.1), fits.2), fits.3)
record_again (log.Rename client call old new) fits = whole_again (both_are (both_are (both_are number_is number_is) path_is) path_is) (λ x. log.Rename (record { 0 = x.0.0.0 }) x.0.0.1 x.0.1 x.1) (((client.0, call), old), new) (((fits.0, fits.1), fits.2), fits.3)
record_again (log.Snapshot client call source copy) fits = whole_again (both_are (both_are (both_are number_is number_is) path_is) path_is) (λ x. log.Snapshot (record { 0 = x.0.0.0 }) x.0.0.1 x.0.1 x.1) (((client.0, call), source), copy) (((fits.0, fits.1), fits.2), fits.3)
record_again (log.Refused client call refusal) fits = whole_again (both_are (both_are number_is number_is) refusal_is) (λ x. log.Refused (record { 0 = x.0.0 }) x.0.1 x.1) ((client.0, call), refusal) ((fits.0, fits.1), tt)
record_again (log.Expired file) fits = whole_again number_is (λ x. log.Expired (record { 0 = x })) file.0 fits
record_again (log.AddChunk file handle) fits = whole_again (both_are number_is number_is) (λ x. log.AddChunk (record { 0 = x.0 }) (record { 0 = x.1 })) (file.0, handle.0) (fits.0, fits.1)
record_again (log.Issue handle version) fits = whole_again (both_are number_is number_is) (λ x. log.Issue (record { 0 = x.0 }) (record { 0 = x.1 })) (handle.0, version.0) (fits.0, fits.1)
record_again (log.Grant handle version primary servers) fits = whole_again (both_are (both_are (both_are number_is number_is) server_is) members_are) (λ x. log.Grant (record { 0 = x.0.0.0 }) (record { 0 = x.0.0.1 }) (record { 0 = x.0.1 }) x.1) (((handle.0, version.0), primary.0), servers) (((fits.0, fits.1), fits.2), fits.3)
record_again (log.CopyStart file i handle copy version) fits = whole_again (both_are (both_are (both_are (both_are number_is index_is) number_is) number_is) number_is) (λ x. log.CopyStart (record { 0 = x.0.0.0.0 }) x.0.0.0.1 (record { 0 = x.0.0.1 }) (record { 0 = x.0.1 }) (record { 0 = x.1 })) ((((file.0, i), handle.0), copy.0), version.0) ((((fits.0, fits.1), fits.2), fits.3), fits.4)
record_again (log.Counters file handle epoch) fits = whole_again (both_are (both_are number_is number_is) number_is) (λ x. log.Counters (record { 0 = x.0.0 }) (record { 0 = x.0.1 }) x.1) ((file.0, handle.0), epoch) ((fits.0, fits.1), fits.2)
record_again (log.DirItem p) fits = whole_again path_is (λ x. log.DirItem x) p fits
record_again (log.FileItem p file None all) fits =
    whole_again (both_are (both_are path_is number_is) handles_are) (λ x. log.FileItem x.0.0 (record { 0 = x.0.1 }) None x.1) ((p, file.0), all) ((fits.0, fits.1), fits.2)
record_again (log.FileItem p file (Some s) all) fits =
    let fields = both_are (both_are (both_are path_is number_is) shape_is) handles_are in
    whole_again fields (λ x. log.FileItem x.0.0.0 (record { 0 = x.0.0.1 }) (Some x.0.1) x.1) (((p, file.0), s), all) (((fits.0, fits.1), fits.2), fits.3)
record_again (log.ChunkItem handle granted issued primary servers) fits = whole_again (both_are (both_are (both_are (both_are number_is number_is) number_is) server_is) members_are) (λ x. log.ChunkItem (record { 0 = x.0.0.0.0 }) (record { 0 = x.0.0.0.1 }) (record { 0 = x.0.0.1 }) (record { 0 = x.0.1 }) x.1) ((((handle.0, granted.0), issued.0), primary.0), servers) ((((fits.0, fits.1), fits.2), fits.3), fits.4)
record_again (log.ClientItem client call refusal) fits = whole_again (both_are (both_are number_is number_is) outcome_is) (λ x. log.ClientItem (record { 0 = x.0.0 }) x.0.1 x.1) ((client.0, call), refusal) ((fits.0, fits.1), tt)

pub is_found : (bytes : List ℕ) (r : Result Record DecodeFault) → IsBytes bytes → Gives (λ r. r) r (record_in bytes) → IfOk r (λ r. IsRecord r × (bytes ≡ payload r))
is_found bytes (Ok r) fits given = record_found bytes r fits given
is_found bytes (Err e) fits given = tt
