use Rattle.std.proofs.Common.{◌≡◌, ℕ, ◌<◌, Bool, true, false, arith, nat_lt, refl}
use Rattle.std.proofs.lemmas.Bool.Decides.{nat_tests}
use Rattle.disk_redo.proofs.Runs.{begun, held}
use Rattle.store_disk.specs.Formats.{is_head_open}
use Rattle.store_disk.proofs.Heads.{still_closed}
use Rattle.store_disk.proofs.formatting.clear_durably.Goals as goal

abbrev of_head : ℕ → Bool
of_head place = nat_lt place 32

before_32 : (place : ℕ) → of_head place ≡ true → place < 32
before_32 place h = grind (arith, nat_tests, h)

pub returns-in_err-clear-clause-any_moment : goal.returns-in_err-clear-clause-any_moment
returns-in_err-clear-clause-any_moment g c =
    let disk = g.D.Disk in
    let old = c.args.disk.now in
    let start = begun disk.seen disk.may_leave disk.moment disk.left_since of_head old (λ f left. g.met.D.Disk.only_now old f left) in
    let run = c.clear.ensures.goes_on old of_head before_32 start in
    held disk.seen disk.may_leave disk.moment disk.left_since of_head (λ bytes. is_head_open bytes ≡ false) old c.clear.new.disk c.requires.durable (λ d k. still_closed of_head (disk.seen old) d refl c.requires.closed k) run

pub returns-in_err-clear-clause-closed : goal.returns-in_err-clear-clause-closed
returns-in_err-clear-clause-closed g c =
    let disk = g.D.Disk in
    let old = c.args.disk.now in
    let start = begun disk.seen disk.may_leave disk.moment disk.left_since of_head old (λ f left. g.met.D.Disk.only_now old f left) in
    let run = c.clear.ensures.goes_on old of_head before_32 start in
    still_closed of_head (disk.seen old) (disk.seen c.clear.new.disk) refl c.requires.closed run.read

pub returns-clause-closed : goal.returns-clause-closed
returns-clause-closed g c =
    let disk = g.D.Disk in
    let old = c.args.disk.now in
    let start = begun disk.seen disk.may_leave disk.moment disk.left_since of_head old (λ f left. g.met.D.Disk.only_now old f left) in
    let run = c.sync.ensures.goes_on old of_head (c.clear.ensures.goes_on old of_head before_32 start) in
    still_closed of_head (disk.seen old) (disk.seen c.sync.new.disk) refl c.requires.closed run.read

pub returns-clause-any_moment : goal.returns-clause-any_moment
returns-clause-any_moment g c =
    let disk = g.D.Disk in
    let old = c.args.disk.now in
    let start = begun disk.seen disk.may_leave disk.moment disk.left_since of_head old (λ f left. g.met.D.Disk.only_now old f left) in
    let run = c.sync.ensures.goes_on old of_head (c.clear.ensures.goes_on old of_head before_32 start) in
    held disk.seen disk.may_leave disk.moment disk.left_since of_head (λ bytes. is_head_open bytes ≡ false) old c.sync.new.disk c.requires.durable (λ d k. still_closed of_head (disk.seen old) d refl c.requires.closed k) run
