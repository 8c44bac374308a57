-- What trimming goes by.
use Rattle.header.specs.declared.Header.{Header}
use Rattle.calls.specs.declared.Settings.{Settings}

-- of a sheet with the header h
abbrev pub settings_of : (h : Header) → Settings
settings_of h = record { scratch = h.scratch; sharing = h.sharing }
