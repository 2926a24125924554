-- The kinds of messages and their names.
use Rattle.std.specs.Prelude.{ℕ, Bool, List, [], ◌∷◌, Option, codes, bytes_eq}
use Rattle.std.specs.List.{find}
use Rattle.messages.specs.declared.message.Body.{Body}
use Rattle.messages.specs.declared.message.Body.TheVariants as bodies
use Rattle.script.specs.declared.kinds.Kind.{Kind}
use Rattle.script.specs.declared.kinds.Kind.TheVariants as kinds

-- the kind of a message with this content
abbrev pub kind_of : Body → Kind
kind_of (bodies.Name _ _ _) = kinds.Name
kind_of (bodies.Look _ _) = kinds.Look
kind_of (bodies.Ask _ _ _ _ _) = kinds.Ask
kind_of (bodies.Named _ _) = kinds.Named
kind_of (bodies.Told _ _) = kinds.Told
kind_of (bodies.Wait _) = kinds.Wait
kind_of (bodies.Refused _ _) = kinds.Refused
kind_of (bodies.Push _ _ _) = kinds.Push
kind_of (bodies.Pushed _) = kinds.Pushed
kind_of (bodies.Mutate _ _ _ _ _) = kinds.Mutate
kind_of (bodies.Done _ _) = kinds.Done
kind_of (bodies.Forward _ _ _ _ _ _) = kinds.Forward
kind_of (bodies.Acked _ _ _) = kinds.Acked
kind_of (bodies.Nacked _ _ _ _) = kinds.Nacked
kind_of (bodies.Read _ _ _ _ _) = kinds.Read
kind_of (bodies.Len _ _ _) = kinds.Len
kind_of (bodies.Bytes _ _) = kinds.Bytes
kind_of (bodies.LenIs _ _) = kinds.LenIs
kind_of (bodies.Create _ _ _) = kinds.Create
kind_of (bodies.SetVersion _ _ _ _) = kinds.SetVersion
kind_of (bodies.Recorded _ _) = kinds.Recorded
kind_of (bodies.Grant _ _ _ _ _ _) = kinds.Grant
kind_of (bodies.Extend _ _ _) = kinds.Extend
kind_of (bodies.Revoke _ _ _) = kinds.Revoke
kind_of (bodies.Revoked _ _) = kinds.Revoked
kind_of (bodies.Drop _ _ _) = kinds.Drop
kind_of (bodies.Clone _ _ _ _) = kinds.Clone
kind_of (bodies.CopyAsk _ _) = kinds.CopyAsk
kind_of (bodies.Image _ _ _ _) = kinds.Image
kind_of (bodies.Cloned _ _) = kinds.Cloned
kind_of (bodies.CopyLocal _ _ _ _ _) = kinds.CopyLocal
kind_of (bodies.Report _ _) = kinds.Report

-- the name that scripts have for it
abbrev pub name_of : Kind → List ℕ
name_of kinds.Name = codes "Name"
name_of kinds.Look = codes "Look"
name_of kinds.Ask = codes "Ask"
name_of kinds.Named = codes "Named"
name_of kinds.Told = codes "Told"
name_of kinds.Wait = codes "Wait"
name_of kinds.Refused = codes "Refused"
name_of kinds.Push = codes "Push"
name_of kinds.Pushed = codes "Pushed"
name_of kinds.Mutate = codes "Mutate"
name_of kinds.Done = codes "Done"
name_of kinds.Forward = codes "Forward"
name_of kinds.Acked = codes "Acked"
name_of kinds.Nacked = codes "Nacked"
name_of kinds.Read = codes "Read"
name_of kinds.Len = codes "Len"
name_of kinds.Bytes = codes "Bytes"
name_of kinds.LenIs = codes "LenIs"
name_of kinds.Create = codes "Create"
name_of kinds.SetVersion = codes "SetVersion"
name_of kinds.Recorded = codes "Recorded"
name_of kinds.Grant = codes "Grant"
name_of kinds.Extend = codes "Extend"
name_of kinds.Revoke = codes "Revoke"
name_of kinds.Revoked = codes "Revoked"
name_of kinds.Drop = codes "Drop"
name_of kinds.Clone = codes "Clone"
name_of kinds.CopyAsk = codes "CopyAsk"
name_of kinds.Image = codes "Image"
name_of kinds.Cloned = codes "Cloned"
name_of kinds.CopyLocal = codes "CopyLocal"
name_of kinds.Report = codes "Report"

abbrev pub all_kinds : List Kind
all_kinds = kinds.Name ∷ kinds.Look ∷ kinds.Ask ∷ kinds.Named ∷ kinds.Told ∷ kinds.Wait ∷ kinds.Refused ∷ kinds.Push ∷ kinds.Pushed ∷ kinds.Mutate ∷ kinds.Done ∷ kinds.Forward ∷ kinds.Acked ∷ kinds.Nacked ∷ kinds.Read ∷ kinds.Len ∷ kinds.Bytes ∷ kinds.LenIs ∷ kinds.Create ∷ kinds.SetVersion ∷ kinds.Recorded ∷ kinds.Grant ∷ kinds.Extend ∷ kinds.Revoke ∷ kinds.Revoked ∷ kinds.Drop ∷ kinds.Clone ∷ kinds.CopyAsk ∷ kinds.Image ∷ kinds.Cloned ∷ kinds.CopyLocal ∷ kinds.Report ∷ []

abbrev pub has_name : List ℕ → Kind → Bool
has_name word kind = bytes_eq (name_of kind) word

-- the kind that a word names
abbrev pub kind_named : List ℕ → Option Kind
kind_named word = find (has_name word) all_kinds
