-- What the kinds of records do to a key.
use Rattle.std.specs.Prelude.{Bool, true, false}
use Rattle.causal_deps.specs.declared.record.Kind.{Kind}
use Rattle.causal_deps.specs.declared.record.Kind.TheVariants.{Append, Put, Del}

-- puts a value under a key
abbrev pub is_put : Kind → Bool
is_put Append = false
is_put Put = true
is_put Del = false

-- puts a value under a key, or deletes it
abbrev pub is_update : Kind → Bool
is_update Append = false
is_update Put = true
is_update Del = true
