-- No look gives a byte that no mutation of the file, or of one that it goes back to, put there.
use Rattle.std.proofs.Common.{◌≡◌, ℕ, zero, suc, ◌≤◌, ◌<◌, ◌⊎◌, Bool, true, false, cond, List, [], ◌∷◌, Option, Some, None, refl, sym, ◌∙◌, ap, subst, inl, inr, arith}
use Rattle.std.specs.Prelude.{Contains, option_map, unwrap_or, ◌==◌}
use Rattle.std.specs.List.{AllByRecursion}
use Rattle.std.proofs.lemmas.Option.{none-some}
use Rattle.gfs_types.specs.declared.call.Call.{Call}
use Rattle.gfs_types.specs.declared.call.Call.TheVariants as call
use Rattle.gfs_types.specs.Paths.{Path}
use Rattle.gfs_types.specs.Mutations.{covers, byte_of}
use Rattle.gfs_types.specs.Image.{newer, last_that, byte_at}
use Rattle.relaxed_file.specs.Names.{Node, Dir, File, copied_entries, id_after}
use Rattle.relaxed_file.specs.Order.{Entry, IsSelection, empty, takes, leaves, last_cover, mutations_of}
use Rattle.relaxed_file.specs.Machine.{Machine, new_machine, Asked, FileState, Chunk, new_chunk, OpenCall, Outcome, chunk_at, chunk_count, with_chunk, chunk_size}
use Rattle.relaxed_file.specs.NameStep.{performed, is_refused, stepped, with_outcome, with_copied_file, with_copied_files, made_file}
use Rattle.relaxed_file.specs.Chunks.{settled_at, chunk_added, placed}
use Rattle.relaxed_file.specs.Answers.{returned}
use Rattle.relaxed_file.specs.Reads.{looked}
use Rattle.relaxed_file.specs.Run.{Action, Return, Step, Expire, Add, OpenRound, CloseRound, Place, Settle, Look, Allows, after, after_all, IsLawful, asked_file}
use Rattle.relaxed_file.specs.Sources.{with_source, with_sources, sources_by_call, sources_by, sources_after, sources_of}
use Rattle.relaxed_file.specs.RunLaws.{IsAskedOf, WasPutBy, ComesFrom, NoOtherByte}
use Rattle.relaxed_file.proofs.Tables.{put_at, at_some, all_more, from_some}
use Rattle.relaxed_file.proofs.Known.{Known, known_step, asked_is}
use Rattle.relaxed_file.proofs.Grows.{Grows, grows_step, known_at_first}
use Rattle.relaxed_file.proofs.AskedFor.{all_pushed, asked_here, open_is_made}

-- each file goes back to itself
abbrev HaveSelves : (ℕ → List ℕ) → Type 0
HaveSelves sources = (file : ℕ) → Contains (sources file) file

self_first : (file : ℕ) (rest : List ℕ) → Contains (file ∷ rest) file
self_first file rest = (0, omega arith, refl)

source_self : (sources : ℕ → List ℕ) (next : ℕ) (node : Node) → HaveSelves sources → HaveSelves (with_source sources next node)
source_self sources next Dir h = h
source_self sources next (File id) h = put_at (λ file s. Contains s file) next (next ∷ sources id) sources (self_first next (sources id)) h

sources_self : (entries : List (Path × Node)) (sources : ℕ → List ℕ) (next : ℕ) → HaveSelves sources → HaveSelves (with_sources sources next entries)
sources_self [] sources next h = h
sources_self (e ∷ rest) sources next h = sources_self rest (with_source sources next e.1) (id_after next e.1) (source_self sources next e.1 h)

call_self : (m : Machine) (c : Call) (sources : ℕ → List ℕ) → HaveSelves sources → HaveSelves (sources_by_call m c sources)
call_self m (call.Snapshot p q) sources h = sources_self (copied_entries m.names p q) sources (suc m.file_count) h
call_self m other sources h = h

module _ (m : Machine) where
  abbrev PutIn : List ℕ → FileState → Type 0
  PutIn sources file = (index : ℕ) → AllByRecursion (WasPutBy m file.shape.chunk sources index) (file.chunks index).order

  abbrev ArePut : (ℕ → List ℕ) → (ℕ → FileState) → Type 0
  ArePut sources files = (file : ℕ) → PutIn (sources file) (files file)

  put_settled : (size : ℕ) (sources : List ℕ) (index place : ℕ) (order : List Entry) → AllByRecursion (WasPutBy m size sources index) order → AllByRecursion (WasPutBy m size sources index) (settled_at place order)
  put_settled size sources index place [] all = tt
  put_settled size sources index zero (e ∷ rest) all = all
  put_settled size sources index (suc place) (e ∷ rest) all = (all.0, put_settled size sources index place rest all.1)

  -- a copy has entries of its source's sources
  from_source : (size from : ℕ) (sources : ℕ → List ℕ) (next index : ℕ) (e : Entry) → WasPutBy m size (sources from) index e → WasPutBy m size (next ∷ sources from) index e
  from_source size from sources next index e h = (h.0, h.1, h.2, h.3, (suc (h.4).0, omega (arith, (h.4).1), (h.4).2), h.5)

  copy_put : (sources : ℕ → List ℕ) (files : ℕ → FileState) (next : ℕ) (node : Node) → ArePut sources files → ArePut (with_source sources next node) (with_copied_file files next node)
  copy_put sources files next Dir h = h
  copy_put sources files next (File id) h = λ k. elim (k == next) as (λ b. PutIn (cond b (next ∷ sources id) (sources k)) (cond b (files id) (files k))) [
    | true ↦ λ index. all_more _ (λ e. from_source (files id).shape.chunk id sources next index e) (h id index)
    | false ↦ h k
  ]

  copies_put : (entries : List (Path × Node)) (sources : ℕ → List ℕ) (files : ℕ → FileState) (next : ℕ) → ArePut sources files → ArePut (with_sources sources next entries) (with_copied_files files next entries)
  copies_put [] sources files next h = h
  copies_put (e ∷ rest) sources files next h = copies_put rest (with_source sources next e.1) (with_copied_file files next e.1) (id_after next e.1) (copy_put sources files next e.1 h)

  performed_put : (c : Call) (moment : ℕ) (sources : ℕ → List ℕ) → ArePut sources m.files → ArePut (sources_by_call m c sources) (performed m c moment).files
  performed_put (call.Create p shape) moment sources h = put_at (λ file s. PutIn (sources file) s) (suc m.file_count) (made_file m shape) m.files (λ index. tt) h
  performed_put (call.Snapshot p q) moment sources h = copies_put (copied_entries m.names p q) sources m.files (suc m.file_count) h
  performed_put other moment sources h = h

  chunk_put : (sources : ℕ → List ℕ) (file index : ℕ) (chunk : Chunk) → AllByRecursion (WasPutBy m (chunk_size m file) (sources file) index) chunk.order → ArePut sources m.files → ArePut sources (with_chunk m file index chunk).files
  chunk_put sources file index chunk new h = put_at (λ f s. PutIn (sources f) s) file _ m.files (put_at (λ i c. AllByRecursion (WasPutBy m (chunk_size m file) (sources file) i) c.order) index chunk (m.files file).chunks new (h file)) h

  stepped_put : (client moment : ℕ) (outcome : Outcome) (current : OpenCall) (sources : ℕ → List ℕ) → ArePut sources m.files
      → ArePut (cond (is_refused outcome) sources (sources_by_call m current.asked.call sources)) (stepped m client moment outcome current).files
  stepped_put client moment outcome current sources h =
      elim (is_refused outcome) as (λ b. ArePut (cond b sources (sources_by_call m current.asked.call sources)) (with_outcome (cond b m (performed m current.asked.call moment)) client outcome).files) [
        | true ↦ h
        | false ↦ performed_put current.asked.call moment sources h
      ]

  put_step : (action : Action) (sources : ℕ → List ℕ) → Allows m action → Known m → HaveSelves sources → ArePut sources m.files → ArePut (sources_by m action sources) (after m action).files
  put_step (Return client reply) sources a known selves h = at_some (λ k. ArePut sources k.files) (λ current. returned m client current reply) m _ a.0 a.1 h
  put_step (Step client moment outcome) sources a known selves h =
      subst (λ o. ArePut (cond (is_refused outcome) sources (unwrap_or (option_map (λ (c : OpenCall). sources_by_call m c.asked.call sources) o) sources)) (unwrap_or (option_map (λ current. stepped m client moment outcome current) o) m).files) (sym a.1)
      (stepped_put client moment outcome a.0 sources h)
  put_step (Expire file moment) sources a known selves h = put_at (λ f s. PutIn (sources f) s) file _ m.files (h file) h
  put_step (Add id) sources a known selves h = at_some (λ k. ArePut sources k.files) (chunk_added m id) m (asked_file m id) a.1 (asked_is m id a.0 a.1 a.2.0 a.2.1)
      (put_at (λ f s. PutIn (sources f) s) a.1 _ m.files (put_at (λ i c. AllByRecursion (WasPutBy m (chunk_size m a.1) (sources a.1) i) c.order) (chunk_count m a.1) new_chunk (m.files a.1).chunks tt (h a.1)) h)
  put_step (OpenRound file index round) sources a known selves h = chunk_put sources file index _ (h file index) h
  put_step (CloseRound file index) sources a known selves h = chunk_put sources file index _ (h file index) h
  put_step (Place client file index mutation) sources a known selves h = at_some (λ k. ArePut sources k.files) (λ current. placed m client current file index mutation) m _ a.0 a.1
      (chunk_put sources file index _ (all_pushed (WasPutBy m (chunk_size m file) (sources file) index) _ _ (h file index)
      ((a.0).asked, open_is_made m client a.0 known a.1, file, (a.2).0, selves file, asked_here m (record { client = client; number = (a.0).number }) file index (a.0).asked.call mutation (a.2).3)) h)
  put_step (Settle file index place) sources a known selves h = chunk_put sources file index _ (put_settled (chunk_size m file) (sources file) index place _ (h file index)) h
  put_step (Look client file index least last chosen) sources a known selves h = at_some (λ k. ArePut sources k.files) (λ current. looked m client current file index least chosen) m _ a.0 a.1 h
  put_step other sources a known selves h = h

  selves_step : (action : Action) (sources : ℕ → List ℕ) → HaveSelves sources → HaveSelves (sources_by m action sources)
  selves_step (Step client moment outcome) sources h =
      elim (is_refused outcome) as (λ b. HaveSelves (cond b sources (unwrap_or (option_map (λ (c : OpenCall). sources_by_call m c.asked.call sources) (m.clients client).open_call) sources))) [
        | true ↦ h
        | false ↦ elim (m.clients client).open_call as (λ o. HaveSelves (unwrap_or (option_map (λ (c : OpenCall). sources_by_call m c.asked.call sources) o) sources)) [
          | None ↦ h
          | Some c ↦ call_self m c.asked.call sources h
        ]
      ]
  selves_step other sources h = h

put_later : (m n : Machine) (size : ℕ) (sources : List ℕ) (index : ℕ) (e : Entry) → Grows m n → WasPutBy m size sources index e → WasPutBy n size sources index e
put_later m n size sources index e g h = (h.0, (g.clients e.call.client).calls e.call.number h.0 h.1, h.2, h.3, h.4, h.5)

all_put : (m : Machine) (actions : List Action) (sources : ℕ → List ℕ) → IsLawful m actions → Known m → HaveSelves sources → ArePut m sources m.files
    → ArePut (after_all m actions) (sources_after sources m actions) (after_all m actions).files
all_put m [] sources lawful known selves h = h
all_put m (x ∷ xs) sources lawful known selves h =
    all_put (after m x) xs (sources_by m x sources) lawful.1 (known_step m x lawful.0 known) (selves_step m x sources selves)
    (λ file index. all_more _ (λ e. put_later m (after m x) (chunk_size (after m x) file) (sources_by m x sources file) index e (grows_step m x lawful.0 known)) (put_step m x sources lawful.0 known selves h file index))

-- what a selection has at a place, by its entries
abbrev Has : List Entry → Entry → Type 0
Has [] e = ⊥
Has (x ∷ rest) e = (x ≡ e) ⊎ Has rest e

has_place : (order : List Entry) (e : Entry) → Has order e → Contains order e
has_place [] e h = absurd h
has_place (x ∷ rest) e (inl same) = (0, omega arith, same)
has_place (x ∷ rest) e (inr h) = let there : Contains rest e = has_place rest e h in (suc there.0, omega (arith, there.1), there.2)

has_all : (P : Entry → Type 0) (order : List Entry) (e : Entry) → AllByRecursion P order → Has order e → P e
has_all P [] e all h = absurd h
has_all P (x ∷ rest) e all (inl same) = subst P same all.0
has_all P (x ∷ rest) e all (inr h) = has_all P rest e all.1 h

chosen_has : (last : ℕ) {order chosen : List Entry} → IsSelection last order chosen → (e : Entry) → Has chosen e → Has order e
chosen_has last empty e h = h
chosen_has last (takes r rest) e (inl same) = inl same
chosen_has last (takes r rest) e (inr h) = inr (chosen_has last rest e h)
chosen_has last (leaves late rest) e h = inr (chosen_has last rest e h)

newer_some : (b : Bool) (x : Entry) (o : Option Entry) (e : Entry) → newer (cond b (Some x) None) o ≡ Some e → (x ≡ e) ⊎ (o ≡ Some e)
newer_some b x (Some y) e h = inr h
newer_some true x None e h = inl (from_some h)
newer_some false x None e h = absurd (none-some e h)

cover_has : (place : ℕ) (chosen : List Entry) (e : Entry) → last_cover chosen place ≡ Some e → Has chosen e
cover_has place [] e h = absurd (none-some e h)
cover_has place (x ∷ rest) e h = elim (newer_some (covers place x.mutation) x (last_cover rest place) e h) [
  | inl same ↦ inl same
  | inr later ↦ inr (cover_has place rest e later)
]

-- the last cover among entries is that among their mutations
newer_mutation : (b : Bool) (x : Entry) (o : Option Entry)
    → newer (cond b (Some x.mutation) None) (option_map (λ (e : Entry). e.mutation) o) ≡ option_map (λ (e : Entry). e.mutation) (newer (cond b (Some x) None) o)
newer_mutation b x (Some y) = refl
newer_mutation true x None = refl
newer_mutation false x None = refl

cover_mutation : (place : ℕ) (chosen : List Entry) → last_that (covers place) (mutations_of chosen) ≡ option_map (λ (e : Entry). e.mutation) (last_cover chosen place)
cover_mutation place [] = refl
cover_mutation place (x ∷ rest) =
    ap (newer (cond (covers place x.mutation) (Some x.mutation) None)) (cover_mutation place rest) ∙ newer_mutation (covers place x.mutation) x (last_cover rest place)

byte_is : (place : ℕ) (chosen : List Entry) (o : Option Entry) → last_cover chosen place ≡ o
    → byte_at (mutations_of chosen) place ≡ unwrap_or (option_map (byte_of place) (option_map (λ (e : Entry). e.mutation) o)) 0
byte_is place chosen o is = ap (λ found. unwrap_or (option_map (byte_of place) found) 0) (cover_mutation place chosen ∙ ap (option_map (λ (e : Entry). e.mutation)) is)

comes_from : (m : Machine) (size : ℕ) (sources : List ℕ) (index last place : ℕ) (order chosen : List Entry) → IsSelection last order chosen → AllByRecursion (WasPutBy m size sources index) order
    → ComesFrom m size sources index order chosen place
comes_from m size sources index last place order chosen chose all =
    elim (last_cover chosen place) as (λ o. last_cover chosen place ≡ o → ComesFrom m size sources index order chosen place) [
      | None ↦ λ is. inl (is, byte_is place chosen None is)
      | Some e ↦ λ is.
          let has : Has order e = chosen_has last chose e (cover_has place chosen e is) in
          inr (e, has_place order e has, is, byte_is place chosen (Some e) is, has_all (WasPutBy m size sources index) order e all has)
    ] refl

pub no_other_byte : NoOtherByte
no_other_byte config actions m lawful ends file index last chosen chose place =
    let put : ArePut (after_all (new_machine config) actions) (sources_of config actions) (after_all (new_machine config) actions).files =
    all_put (new_machine config) actions (λ f. f ∷ []) lawful (known_at_first config) (λ f. self_first f []) (λ f i. tt) in
    comes_from m (chunk_size m file) (sources_of config actions file) index last place _ chosen chose
    (subst (λ (k : Machine). AllByRecursion (WasPutBy k (chunk_size k file) (sources_of config actions file) index) (chunk_at k file index).order) ends (put file index))
