use Rattle.gfs_types.specs.declared.call.Call.TheVariants as call
use Rattle.machine_programs.proofs.NameSteps.{refused_as, refused_as_both}
use Rattle.machine_programs.proofs.name_table.NameTable.refusal_of.Goals as goal

pub returns-in-Mkdir : goal.returns-in-Mkdir
returns-in-Mkdir c =
    refused_as c.refusal_of_new.result _ c.args.self.now c.args.call.now call.Mkdir c.as_str.result.now c.in-Mkdir.path c.refusal_of_new.ensures c.as_str.ensures c.in-Mkdir.is c.self.view_is

pub returns-in-Rmdir : goal.returns-in-Rmdir
returns-in-Rmdir c =
    refused_as c.refusal_of_rmdir.result _ c.args.self.now c.args.call.now call.Rmdir c.as_str-in-Rmdir.result.now c.in-Rmdir.path c.refusal_of_rmdir.ensures c.as_str-in-Rmdir.ensures c.in-Rmdir.is c.self.view_is

pub returns-in-Open : goal.returns-in-Open
returns-in-Open c =
    refused_as c.refusal_of_open.result _ c.args.self.now c.args.call.now call.Open c.as_str-in-Open.result.now c.in-Open.path c.refusal_of_open.ensures c.as_str-in-Open.ensures c.in-Open.is c.self.view_is

pub returns-in-List : goal.returns-in-List
returns-in-List c =
    refused_as c.refusal_of_list.result _ c.args.self.now c.args.call.now call.List c.as_str-in-List.result.now c.in-List.path c.refusal_of_list.ensures c.as_str-in-List.ensures c.in-List.is c.self.view_is

pub returns-in-Delete : goal.returns-in-Delete
returns-in-Delete c =
    refused_as c.refusal_of_delete.result _ c.args.self.now c.args.call.now call.Delete c.as_str-in-Delete.result.now c.in-Delete.path c.refusal_of_delete.ensures c.as_str-in-Delete.ensures c.in-Delete.is c.self.view_is

pub returns-in-Rename : goal.returns-in-Rename
returns-in-Rename c =
    refused_as_both c.refusal_of_rename.result _ c.args.self.now c.args.call.now call.Rename c.as_str-in-Rename.result.now c.in-Rename.path c.as_str-in-Rename-2.result.now c.in-Rename.to
    c.refusal_of_rename.ensures c.as_str-in-Rename.ensures c.as_str-in-Rename-2.ensures c.in-Rename.is c.self.view_is

pub returns-in_ok-refusal_of_snapshot-in-Snapshot : goal.returns-in_ok-refusal_of_snapshot-in-Snapshot
returns-in_ok-refusal_of_snapshot-in-Snapshot c =
    refused_as_both c.in_ok-refusal_of_snapshot-in-Snapshot.field-0 _ c.args.self.now c.args.call.now call.Snapshot c.as_str-in-Snapshot.result.now c.in-Snapshot.path
    c.as_str-in-Snapshot-2.result.now c.in-Snapshot.to c.in_ok-refusal_of_snapshot-in-Snapshot.ensures c.as_str-in-Snapshot.ensures c.as_str-in-Snapshot-2.ensures c.in-Snapshot.is c.self.view_is
