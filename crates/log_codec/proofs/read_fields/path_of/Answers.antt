use Rattle.std.proofs.Common.{◌≡◌, true, arith}
use Rattle.gfs_types.specs.Paths.{is_path}
use Rattle.log_codec.proofs.Texts.{refused, taken}
use Rattle.log_codec.proofs.read_fields.path_of.Goals as goal

pub returns-in_default : goal.returns-in_default
returns-in_default c = refused c.args.bytes.now c.in_default.ensures.cases.0

pub returns : goal.returns
returns c =
    let accepted : is_path c.args.bytes.now ≡ true = grind (arith, c.accepts_path.ensures, c.if-not-accepts_path.false) in
    rw (c.in_ok-from_str.ensures, c.in-Ok.ensures.cases.0) (taken c.args.bytes.now accepted c.in-Ok.ensures.cases.1)
