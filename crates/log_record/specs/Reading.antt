-- The reading that a reading's record holds.
-- Assumes nothing.
use Rattle.std.specs.Prelude.{List, ℕ}
use Rattle.rules.specs.Log.{named_in, spare_in, media_in, controller_in}
use Rattle.rules.specs.declared.{Entry.Entry, Entry.TheVariants.Health}
use Rattle.rules.specs.Health.{new_reading}

abbrev pub reading_entry : List ℕ → Entry
reading_entry bytes = Health (named_in bytes) (new_reading (spare_in bytes) (media_in bytes) (controller_in bytes))
