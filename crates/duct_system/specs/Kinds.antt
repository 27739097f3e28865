-- The kind of fault that an error of std becomes, the kind of std's error of a kind of fault, and
-- its name.
use Rattle.std.specs.Prelude.{ℕ, List, codes}
use Rattle.std.specs.declared.io.ErrorKind.{ErrorKind}
use Rattle.std.specs.declared.io.ErrorKind.TheVariants as error
use Rattle.duct_system.specs.declared.system.Kind.{Kind}
use Rattle.duct_system.specs.declared.system.Kind.TheVariants.{NotFound, PermissionDenied, BrokenPipe, WriteZero, InvalidInput, Unsupported, OutOfMemory, Other}

-- the kind with the same name, or Other if there is none
abbrev pub kind_of : ErrorKind → Kind
kind_of error.NotFound = NotFound
kind_of error.PermissionDenied = PermissionDenied
kind_of error.BrokenPipe = BrokenPipe
kind_of error.WriteZero = WriteZero
kind_of error.InvalidInput = InvalidInput
kind_of error.Unsupported = Unsupported
kind_of error.OutOfMemory = OutOfMemory
kind_of _ = Other

-- the kind with the same name
abbrev pub name_of : Kind → ErrorKind
name_of NotFound = error.NotFound
name_of PermissionDenied = error.PermissionDenied
name_of BrokenPipe = error.BrokenPipe
name_of WriteZero = error.WriteZero
name_of InvalidInput = error.InvalidInput
name_of Unsupported = error.Unsupported
name_of OutOfMemory = error.OutOfMemory
name_of Other = error.Other

-- the name of a kind of fault
abbrev pub kind_name : Kind → List ℕ
kind_name NotFound = codes "NotFound"
kind_name PermissionDenied = codes "PermissionDenied"
kind_name BrokenPipe = codes "BrokenPipe"
kind_name WriteZero = codes "WriteZero"
kind_name InvalidInput = codes "InvalidInput"
kind_name Unsupported = codes "Unsupported"
kind_name OutOfMemory = codes "OutOfMemory"
kind_name Other = codes "Other"
