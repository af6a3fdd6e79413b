-- A file in a fid's few bytes: its kind and its node (this project's own).
use Rattle.std.specs.Prelude.{true, false}
use Rattle.bl_syntax.specs.declared.terms.NodeId.{NodeId}
use Rattle.nine_fids.specs.declared.fid.FidFile.{FidFile}
use Rattle.nine_fids.specs.declared.fid.FidFile.TheVariants as files
use Rattle.nine_fids.specs.declared.entry.EntryKind.{EntryKind}
use Rattle.nine_fids.specs.declared.entry.EntryKind.TheVariants.{Control, File, Directory}

abbrev pub file_of : EntryKind → NodeId → FidFile
file_of Control node = files.Control
file_of File node = files.Node node false
file_of Directory node = files.Node node true
