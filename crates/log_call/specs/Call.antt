-- The call that a call record holds.
-- Assumes nothing.
use Rattle.std.specs.Prelude.{List, ℕ}
use Rattle.rules.specs.Log.{named_in, host_in, revision_in, function_in, length_in}
use Rattle.rules.specs.declared.{Entry.Entry, Entry.TheVariants.Call}

abbrev pub call_entry : List ℕ → Entry
call_entry bytes = Call (named_in bytes) (host_in bytes) (revision_in bytes) (function_in bytes) (length_in bytes)
