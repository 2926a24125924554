-- What the words of a command line ask for.
use Rattle.std.specs.Prelude.{◌≡◌, ◌⊎◌, ⊤, ℕ, ◌-◌, ◌^◌, min, Bool, true, false, List, [], ◌∷◌, Option, Some, None, is_some, option_map, option_and_then, unwrap_or, if◌then◌else◌, codes, Result, Ok, Err}
use Rattle.std.specs.List.{list_all}
use Rattle.std.specs.Option.{option_map_or}
use Rattle.std.specs.Str.{bytes_eq}
use Rattle.clap.specs.Walk.{Row, Text, first_of}
use Rattle.clap.specs.Simple.{subcommand_of}
use Rattle.clap.specs.Kinds.{Kinds}
use Rattle.clap.specs.Faults.{fault_of}
use Rattle.clap.specs.declared.error.kind.ErrorKind.{ErrorKind}
use Rattle.clap.specs.declared.error.kind.ErrorKind.TheVariants.{DisplayHelp, DisplayVersion, OutOfMemory}
use Rattle.gfs_types.specs.Settings.{block_for, default_settings}
use Rattle.gfs_types.specs.declared.config.Config.{Config}
use Rattle.script.specs.Numbers.{number_of}
use Rattle.command_line.specs.Program.{keep, names_heap, option_names, regions, history, progress, program}
use Rattle.script.specs.declared.options.Options.{Options}
use Rattle.command_line.specs.declared.command.CommandFault.{CommandFault}
use Rattle.command_line.specs.declared.command.CommandFault.TheVariants.{Bad, NoMemory}
use Rattle.command_line.specs.declared.command.Telling.{Telling}
use Rattle.command_line.specs.declared.command.Request.{Request}
use Rattle.command_line.specs.declared.command.Request.TheVariants.{Sim, Live, Serve, Show}

-- ---- the options; rows are what the words gave to each name

-- an option's value is a number, where one is given
abbrev pub is_numbered : List Row → Text → Bool
is_numbered rows name = option_map_or (λ text. is_some (number_of text)) (first_of name rows) true

-- that number, or the default where none is given
abbrev pub number_for : List Row → Text → ℕ → ℕ
number_for rows name default = option_map_or (λ text. unwrap_or (number_of text) 0) (first_of name rows) default

-- the same of a setting of 32 bits, whose greatest value stands for all above it
abbrev pub narrow_for : List Row → Text → ℕ → ℕ
narrow_for rows name default = min (number_for rows name default) (2 ^ 32 - 1)

abbrev pub config_of : List Row → Config
config_of rows = record {
  chunk = narrow_for rows (codes "chunk") default_settings.chunk;
  block = narrow_for rows (codes "block") (block_for (narrow_for rows (codes "chunk") default_settings.chunk));
  goal = narrow_for rows (codes "goal") default_settings.goal;
  lease_ms = number_for rows (codes "lease-ms") default_settings.lease_ms;
  skew_ms = number_for rows (codes "skew-ms") default_settings.skew_ms;
  attempt_ms = number_for rows (codes "attempt-ms") default_settings.attempt_ms;
  attempts = narrow_for rows (codes "attempts") default_settings.attempts;
  cache_entries = narrow_for rows (codes "cache-entries") default_settings.cache_entries;
  cache_ms = number_for rows (codes "cache-ms") default_settings.cache_ms;
  push_entries = narrow_for rows (codes "push-entries") default_settings.push_entries;
  keep_ms = number_for rows (codes "keep-ms") default_settings.keep_ms;
  slots = narrow_for rows (codes "slots") default_settings.slots;
  log_bytes = number_for rows (codes "log-bytes") default_settings.log_bytes;
  journal = narrow_for rows (codes "journal") default_settings.journal;
}

abbrev pub options_of : List Row → Options
options_of rows = record {
  servers = number_for rows (codes "servers") 3;
  clients = number_for rows (codes "clients") 1;
  config = config_of rows;
}

-- the number of an option without a default, where it is given
abbrev pub given_number : List Row → Text → Option ℕ
given_number rows name = option_map (λ text. unwrap_or (number_of text) 0) (first_of name rows)

-- a flag is given
abbrev pub is_given : List Row → Text → Bool
is_given rows name = option_map_or (λ text. bytes_eq text (codes "true")) (first_of name rows) false

-- each value that is given to one of these options is a number
abbrev pub all_numbered : List Row → List Text → Bool
all_numbered rows names = list_all (is_numbered rows) names

-- ---- the command line

-- what is told of a run beside its answers: how far it is, the regions of a file, and its history, into a file
pub record Told : Type 0 where
  pub progress : Bool
  pub regions : Option Text
  pub history : Option Text

abbrev pub told : Bool → Option Text → Option Text → Told
told progress regions history = record { progress = progress; regions = regions; history = history }

abbrev pub told_by : List Row → Told
told_by rows = told (is_given rows progress) (first_of regions rows) (first_of history rows)

abbrev pub told_of : Telling → Told
told_of t = told t.progress (option_map (λ s. s.now) t.regions) (option_map (λ s. s.now) t.history)

-- the bytes of the names' region, how many entries of the journal stay, what is told, and the options
abbrev pub Wanted : Type 0
Wanted = Option ℕ × (Option ℕ × (Told × Options))

abbrev pub wanted_by : List Row → Wanted
wanted_by rows = (given_number rows names_heap, (given_number rows keep, (told_by rows, options_of rows)))

-- the file, and what the rows of a subcommand say of the run
abbrev pub run_of : List Row → Option (Text × Wanted)
run_of rows = if all_numbered rows (names_heap ∷ keep ∷ option_names) then option_map (λ file. (file, wanted_by rows)) (first_of (codes "FILE") rows) else None

-- the subcommand runs the script on threads; the other one runs it by the simulator
abbrev pub is_live : Text → Bool
is_live name = bytes_eq name (codes "live")

-- whether on threads, the file, and what is said of the run
abbrev pub run_by : Text × List Row → Option (Bool × (Text × Wanted))
run_by sub = option_map (λ run. (is_live sub.0, run)) (run_of sub.1)

-- the faults that a parse of the words may name: the first step that fails has one kind, or a few that may come
abbrev pub faults : List Text → Kinds
faults words = fault_of program words

-- the user asked for the help or the version
abbrev pub is_shown : ErrorKind → Bool
is_shown DisplayHelp = true
is_shown DisplayVersion = true
is_shown _ = false

-- to run a script's file by the simulator, with a region for the names or none, or on threads, with so many entries that stay or all, and more told than the answers,
-- to serve a cell with so many entries that stay or all, and tell the regions of a file at its end, to be shown the help or the version, or nothing
pub data Asked : Type 0 where
  to_simulate : Text → Option ℕ → Options → Asked
  to_play : Text → Option ℕ → Told → Options → Asked
  to_serve : Option ℕ → Option Text → Options → Asked
  to_be_shown : Asked
  nothing : Asked

abbrev pub to_run : Bool × (Text × Wanted) → Asked
to_run run = if run.0 then to_play run.1.0 run.1.1.1.0 run.1.1.1.1.0 run.1.1.1.1.1 else to_simulate run.1.0 run.1.1.0 run.1.1.1.1.1

-- the subcommand serves a cell
abbrev pub is_served : Text → Bool
is_served name = bytes_eq name (codes "serve")

-- what the rows of that subcommand ask for
abbrev pub served_of : List Row → Option Asked
served_of rows = if all_numbered rows (keep ∷ option_names) then Some (to_serve (given_number rows keep) (first_of regions rows) (options_of rows)) else None

-- what the rows of a subcommand ask for
abbrev pub asked_on : Text × List Row → Option Asked
asked_on sub = if is_served sub.0 then served_of sub.1 else option_map to_run (run_by sub)

-- what the words would ask for, where they have no fault
abbrev pub meant : List Text → Option Asked
meant words = option_and_then asked_on (subcommand_of program words)

-- faults come first; of the kinds that the first fault may have, all are to be shown or none is
abbrev pub asked_by : Kinds → Option Asked → Asked
asked_by [] (Some asked) = asked
asked_by [] None = nothing
asked_by (kind ∷ kinds) meant = if is_shown kind then to_be_shown else nothing

abbrev pub asked : List Text → Asked
asked words = asked_by (faults words) (meant words)

-- the answer says what the words ask for, or memory ran out
abbrev pub Answers : List Text → Result Request CommandFault → Type 0
Answers words (Ok (Sim file bytes options)) = asked words ≡ to_simulate file.now bytes options
Answers words (Ok (Live file most tells options)) = asked words ≡ to_play file.now most (told_of tells) options
Answers words (Ok (Serve most path options)) = asked words ≡ to_serve most (option_map (λ s. s.now) path) options
Answers words (Ok (Show text)) = asked words ≡ to_be_shown
Answers words (Err Bad) = asked words ≡ nothing
Answers words (Err NoMemory) = ⊤

-- what a fault of a parse becomes; a text to be shown may take memory
abbrev pub Becomes : ErrorKind → Result Request CommandFault → Type 0
Becomes kind (Ok (Sim file bytes options)) = ⊥
Becomes kind (Ok (Live file most tells options)) = ⊥
Becomes kind (Ok (Serve most path options)) = ⊥
Becomes kind (Ok (Show text)) = is_shown kind ≡ true
Becomes kind (Err Bad) = (is_shown kind ≡ false) × (kind ≡ OutOfMemory → ⊥)
Becomes kind (Err NoMemory) = (is_shown kind ≡ true) ⊎ (kind ≡ OutOfMemory)

-- to run a script on threads or by the simulator
abbrev pub Runs : Bool → Text → Option ℕ → Option ℕ → Told → Options → Request → Type 0
Runs live file bytes most tells options (Sim f b o) = (live ≡ false) × (f.now ≡ file) × (b ≡ bytes) × (o ≡ options)
Runs live file bytes most tells options (Live f m t o) = (live ≡ true) × (f.now ≡ file) × (m ≡ most) × (told_of t ≡ tells) × (o ≡ options)
Runs live file bytes most tells options (Serve m p o) = ⊥
Runs live file bytes most tells options (Show text) = ⊥

-- to serve a cell, where each value that is given is a number
abbrev pub Serves : List Row → Result Request CommandFault → Type 0
Serves rows (Ok (Serve most path options)) = served_of rows ≡ Some (to_serve most (option_map (λ s. s.now) path) options)
Serves rows (Ok other) = ⊥
Serves rows (Err Bad) = served_of rows ≡ None
Serves rows (Err NoMemory) = ⊥
