-- What a parse's answer says of the words.
use Rattle.std.proofs.Common.{◌≡◌, ◌∙◌, ◌&&◌, ℕ, inl, inr, Bool, true, false, true≢false, cond, List, [], ◌∷◌, refl, sym, ap, ap₂, subst, Option, Some, None, option_map, codes, ok_or, Result, Ok, Err}
use Rattle.std.specs.Prelude.{IsErrAnd, option_and_then}
use Rattle.clap.specs.Walk.{Row, Text, first_of}
use Rattle.clap.specs.Simple.{App, HasMatchesOf, is_simple, subcommand_of, subcommand_rows_of}
use Rattle.clap.specs.Kinds.{HasKind, IsAmong, Kinds}
use Rattle.clap.specs.Faults.{fault_of, is_simple_and_free}
use Rattle.clap.specs.Values.{kind_of}
use Rattle.clap.specs.declared.error.Error.{Error}
use Rattle.clap.specs.declared.parser.matches.ArgMatches.{ArgMatches}
use Rattle.clap.specs.declared.parser.matches.ArgMatches.TheViews.{out-ArgMatches}
use Rattle.clap.specs.Matches.{subcommand_name_of}
use Rattle.clap.specs.declared.error.kind.ErrorKind.{ErrorKind}
use Rattle.clap.proofs.OnLiterals.{clap_on_literals}
use Rattle.command_line.specs.Program.{keep, names_heap, option_names, program, regions}
use Rattle.command_line.proofs.FaultLemmas.{are_alike, faults_are_alike, first_tells}
use Rattle.command_line.specs.Asking.{Asked, asked, asked_by, asked_on, Told, Wanted, to_run, to_simulate, to_play, to_serve, to_be_shown, nothing, Answers, Becomes}
use Rattle.command_line.specs.Asking.{Runs, Serves, all_numbered, faults, given_number, is_live, is_numbered, is_served, is_shown, meant, options_of, run_by, run_of, served_of, wanted_by}
use Rattle.script.specs.declared.options.Options.{Options}
use Rattle.command_line.specs.declared.command.CommandFault.{CommandFault}
use Rattle.command_line.specs.declared.command.CommandFault.TheVariants.{Bad, NoMemory}
use Rattle.command_line.specs.declared.command.Request.{Request}
use Rattle.command_line.specs.declared.command.Request.TheVariants.{Sim, Live, Serve, Show}

is_simple_program : is_simple program ≡ true
unfolding clap_on_literals
is_simple_program = refl

is_free_program : is_simple_and_free program ≡ true
unfolding clap_on_literals
is_free_program = refl

pub no_fault : (a : App) (words : List Text) → a ≡ program → (is_simple_and_free a ≡ true → fault_of a words ≡ []) → faults words ≡ []
no_fault a words is clean = ap (λ (a : App). fault_of a words) (sym is) ∙ clean (ap is_simple_and_free is ∙ is_free_program)

pub a_fault : (a : App) (words : List Text) (e : Error) → a ≡ program → (is_simple_and_free a ≡ true → HasKind (fault_of a words) e) → HasKind (faults words) e
a_fault a words e is has = subst (λ (a : App). HasKind (fault_of a words) e) is (has (ap is_simple_and_free is ∙ is_free_program))

asked_on_rows : (o : Option (Text × List Row)) (name : Text) (rows : List Row) → Some name ≡ option_map (λ p. p.0) o → Some rows ≡ option_map (λ p. p.1) o → option_and_then asked_on o ≡ asked_on (name, rows)
asked_on_rows None name rows n e = absurd (let none : Some name ≡ None = n in cc)
asked_on_rows (Some sub) name rows n e =
    let name_is : sub.0 ≡ name = (let same : Some name ≡ Some sub.0 = n in cc) in
    let rows_are : sub.1 ≡ rows = (let same : Some rows ≡ Some sub.1 = e in cc) in
    ap₂ (λ (m : Text) (rs : List Row). asked_on (m, rs)) name_is rows_are

names_are : (m : ArgMatches) → subcommand_name_of m ≡ option_map (λ p. p.0) (subcommand_rows_of m)
names_are m = go _ _ (out-ArgMatches m).subcommand
  where
    go : {B : Type 0} (name : B → Text) (rows : B → List Row) (o : Option B) → option_map name o ≡ option_map (λ (p : Text × List Row). p.0) (option_map (λ b. (name b, rows b)) o)
    go name rows None = refl
    go name rows (Some b) = refl

pub meant_found : (a : App) (words : List Text) (m : ArgMatches) (name : Text) (rows : List Row) → a ≡ program → HasMatchesOf a words m → Some name ≡ subcommand_name_of m
    → Some rows ≡ option_map (λ p. p.1) (subcommand_rows_of m) → meant words ≡ asked_on (name, rows)
meant_found a words m name rows is has n e =
    let sub : subcommand_rows_of m ≡ subcommand_of program words = (has (ap is_simple is ∙ is_simple_program)).1 ∙ ap (λ (a : App). subcommand_of a words) is in
    asked_on_rows (subcommand_of program words) name rows (n ∙ names_are m ∙ ap (option_map (λ (p : Text × List Row). p.0)) sub) (e ∙ ap (option_map (λ (p : Text × List Row). p.1)) sub)

-- a subcommand that serves no cell runs a script
run_asked : (name : Text) (rows : List Row) → is_served name ≡ false → asked_on (name, rows) ≡ option_map to_run (run_by (name, rows))
run_asked name rows runs = ap (λ (b : Bool). cond b (served_of rows) (option_map to_run (run_by (name, rows)))) runs

-- where the rows give nothing to run
pub run_none : (name : Text) (rows : List Row) → is_served name ≡ false → run_of rows ≡ None → asked_on (name, rows) ≡ None
run_none name rows runs none = run_asked name rows runs ∙ ap (λ (o : Option (Text × Wanted)). option_map to_run (option_map (λ (run : Text × Wanted). (is_live name, run)) o)) none

-- where they do
pub run_some : (name : Text) (rows : List Row) (live : Bool) (file : Text) (wanted : Wanted) → is_served name ≡ false → is_live name ≡ live → run_of rows ≡ Some (file, wanted)
    → asked_on (name, rows) ≡ Some (to_run (live, (file, wanted)))
run_some name rows live file wanted runs is run =
    run_asked name rows runs ∙ ap₂ (λ (b : Bool) (o : Option (Text × Wanted)). option_map to_run (option_map (λ (r : Text × Wanted). (b, r)) o)) is run

-- where a cell is served
serve_asked : (name : Text) (rows : List Row) → is_served name ≡ true → asked_on (name, rows) ≡ served_of rows
serve_asked name rows serves = ap (λ (b : Bool). cond b (served_of rows) (option_map to_run (run_by (name, rows)))) serves

abbrev given : List Row → Bool → Option Text → Option (Text × Wanted)
given rows b file = cond b (option_map (λ (f : Text). (f, wanted_by rows)) file) None

pub run_is : (rows : List Row) (file : Text) → true ≡ is_numbered rows names_heap → true ≡ is_numbered rows keep → true ≡ all_numbered rows option_names → Some file ≡ first_of (codes "FILE") rows
    → run_of rows ≡ Some (file, wanted_by rows)
run_is rows file heap most all is =
    ap (λ b. given rows (b && all_numbered rows (keep ∷ option_names)) (first_of (codes "FILE") rows)) (sym heap)
    ∙ ap (λ b. given rows (b && all_numbered rows option_names) (first_of (codes "FILE") rows)) (sym most)
    ∙ ap (λ b. given rows b (first_of (codes "FILE") rows)) (sym all) ∙ ap (given rows true) (sym is)

-- what is served
abbrev serving : Bool → Option ℕ → Option Text → Options → Option Asked
serving b most path options = cond b (Some (to_serve most path options)) None

pub serve_is : (rows : List Row) (most : Option ℕ) (path : Option Text) (options : Options) → true ≡ is_numbered rows keep → true ≡ all_numbered rows option_names → most ≡ given_number rows keep
    → path ≡ first_of regions rows → options ≡ options_of rows → served_of rows ≡ Some (to_serve most path options)
serve_is rows most path options kept all most_is path_is options_is =
    ap (λ b. serving (b && all_numbered rows option_names) (given_number rows keep) (first_of regions rows) (options_of rows)) (sym kept)
    ∙ (ap (λ b. serving b (given_number rows keep) (first_of regions rows) (options_of rows)) (sym all)
    ∙ ap₂ (λ (m : Option ℕ) (w : Option Text × Options). Some (to_serve m w.0 w.1)) (sym most_is) (λ i. (sym path_is i, sym options_is i)))

pub no_file : (rows : List Row) → None ≡ first_of (codes "FILE") rows → run_of rows ≡ None
no_file rows is = ap (given rows (all_numbered rows (names_heap ∷ keep ∷ option_names))) (sym is) ∙ go (all_numbered rows (names_heap ∷ keep ∷ option_names))
  where
    go : (b : Bool) → ◌≡◌ {A = Option (Text × Wanted)} (cond b None None) None
    go true = refl
    go false = refl

pub no_heap : (rows : List Row) → false ≡ is_numbered rows names_heap → run_of rows ≡ None
no_heap rows heap = ap (λ b. given rows (b && all_numbered rows (keep ∷ option_names)) (first_of (codes "FILE") rows)) (sym heap)

pub no_keep : (rows : List Row) → true ≡ is_numbered rows names_heap → false ≡ is_numbered rows keep → run_of rows ≡ None
no_keep rows heap most =
    ap (λ b. given rows (b && all_numbered rows (keep ∷ option_names)) (first_of (codes "FILE") rows)) (sym heap)
    ∙ ap (λ b. given rows (b && all_numbered rows option_names) (first_of (codes "FILE") rows)) (sym most)

pub no_number : (rows : List Row) → true ≡ is_numbered rows names_heap → true ≡ is_numbered rows keep → false ≡ all_numbered rows option_names → run_of rows ≡ None
no_number rows heap most all =
    ap (λ b. given rows (b && all_numbered rows (keep ∷ option_names)) (first_of (codes "FILE") rows)) (sym heap)
    ∙ ap (λ b. given rows (b && all_numbered rows option_names) (first_of (codes "FILE") rows)) (sym most)
    ∙ ap (λ b. given rows b (first_of (codes "FILE") rows)) (sym all)

by_fault : (kinds : Kinds) (run : Option Asked) (k : ErrorKind) (b : Bool) → are_alike kinds ≡ true → IsAmong k kinds → is_shown k ≡ b
    → asked_by kinds run ≡ cond b to_be_shown nothing
by_fault [] run k b alike among is = absurd among
by_fault (first ∷ rest) run k b alike among is = ap (λ b. cond b to_be_shown nothing) (sym (first_tells k first rest alike among) ∙ is)

pub of_fault : (words : List Text) (e : Error) (r : Result Request CommandFault) → HasKind (faults words) e → Becomes (kind_of e) r → Answers words r
of_fault words e (Ok (Sim file bytes options)) h b = absurd b
of_fault words e (Ok (Live file most tells options)) h b = absurd b
of_fault words e (Ok (Serve most path options)) h b = absurd b
of_fault words e (Ok (Show text)) (inl is) b = absurd (true≢false (sym b ∙ ap is_shown is))
of_fault words e (Ok (Show text)) (inr among) b = by_fault (faults words) (meant words) (kind_of e) true (faults_are_alike words) among b
of_fault words e (Err Bad) (inl is) b = absurd (b.1 is)
of_fault words e (Err Bad) (inr among) b = by_fault (faults words) (meant words) (kind_of e) false (faults_are_alike words) among b.0
of_fault words e (Err NoMemory) h b = tt

abbrev fault_in : {X : Type 0} → Result X CommandFault → CommandFault
fault_in (Ok x) = Bad
fault_in (Err fault) = fault

-- what `ok_or` makes of nothing
pub fault_of_none : {X : Type 0} (o : Option X) (fault : CommandFault) → o ≡ None → Err fault ≡ ok_or o Bad → fault ≡ Bad
fault_of_none o fault none is = ap fault_in (is ∙ ap (λ o. ok_or o Bad) none)

pub of_bad : (words : List Text) (r : Result Request CommandFault) (fault : CommandFault) → IsErrAnd r (λ e. e ≡ fault) → fault ≡ Bad → faults words ≡ []
    → meant words ≡ None → Answers words r
of_bad words (Ok x) fault is bad none run = absurd is
of_bad words (Err e) fault is bad none run = subst (λ e. Answers words (Err e)) (sym (is ∙ bad)) (ap₂ asked_by none run)

pub of_run : (words : List Text) (live : Bool) (file : Text) (bytes most : Option ℕ) (tells : Told) (options : Options) (r : Request)
    → asked words ≡ to_run (live, (file, (bytes, (most, (tells, options))))) → Runs live file bytes most tells options r → Answers words (Ok r)
of_run words live file bytes most tells options (Sim f b o) is runs =
    is ∙ ap (λ (l : Bool). to_run (l, (file, (bytes, (most, (tells, options)))))) runs.0
    ∙ ap₂ (λ (g : Text) (w : Option ℕ × Options). to_simulate g w.0 w.1) (sym runs.1) (λ i. (sym runs.2 i, sym runs.3 i))
of_run words live file bytes most tells options (Live f m t o) is runs =
    is ∙ ap (λ (l : Bool). to_run (l, (file, (bytes, (most, (tells, options)))))) runs.0
    ∙ ap₂ (λ (g : Text) (w : Option ℕ × (Told × Options)). to_play g w.0 w.1.0 w.1.1) (sym runs.1) (λ i. (sym runs.2 i, (sym runs.3 i, sym runs.4 i)))
of_run words live file bytes most tells options (Serve m p o) is runs = absurd runs
of_run words live file bytes most tells options (Show text) is runs = absurd runs

pub of_serve : (words : List Text) (name : Text) (rows : List Row) (r : Result Request CommandFault) → faults words ≡ [] → meant words ≡ asked_on (name, rows) → is_served name ≡ true → Serves rows r
    → Answers words r
of_serve words name rows (Ok (Sim f b o)) none is named serves = absurd serves
of_serve words name rows (Ok (Live f m t o)) none is named serves = absurd serves
of_serve words name rows (Ok (Serve m p o)) none is named serves = ap₂ asked_by none (is ∙ serve_asked name rows named ∙ serves)
of_serve words name rows (Ok (Show text)) none is named serves = absurd serves
of_serve words name rows (Err Bad) none is named serves = ap₂ asked_by none (is ∙ serve_asked name rows named ∙ serves)
of_serve words name rows (Err NoMemory) none is named serves = tt
