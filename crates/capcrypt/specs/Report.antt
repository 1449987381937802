-- The number and the text of each ending.
use Rattle.hex.specs.Hex.{encode_lower}
use Rattle.std.specs.Prelude.{◌+◌, ◌&&◌, ℕ, Bool, true, false, List, [], ◌∷◌, ◌++◌, codes, decimal, Option, None, Some, if◌then◌else◌}
use Rattle.capture_io.specs.declared.header.CaptureCause.{CaptureCause}
use Rattle.capture_io.specs.declared.header.CaptureCause.TheVariants.{ShortHeader, BadMagic, BadVersion, ShortRecord, ShortData, FormNotBuilt}
use Rattle.packet_flow.specs.declared.counts.Counts.{Counts}
use Rattle.capcrypt.specs.declared.ending.Outcome.{Outcome}
use Rattle.capcrypt.specs.declared.ending.Ending.{Ending}
use Rattle.capcrypt.specs.declared.ending.Ending.TheVariants.{Done, Memory, Usage, Vdev, Capture, Sessions, ReadFault, WriteFault, Stalled, TooLarge}

abbrev pub status_of : Ending → ℕ
status_of Done = 0
status_of Memory = 1
status_of Usage = 2
status_of (Vdev at) = 2
status_of (Capture at cause) = 3
status_of (Sessions line kind) = 4
status_of ReadFault = 5
status_of WriteFault = 6
status_of Stalled = 7
status_of (TooLarge value) = 8

abbrev pub cause_name : CaptureCause → List ℕ
cause_name ShortHeader = codes "short_header"
cause_name BadMagic = codes "bad_magic"
cause_name BadVersion = codes "bad_version"
cause_name ShortRecord = codes "short_record"
cause_name ShortData = codes "short_data"
cause_name FormNotBuilt = codes "form_not_built"

abbrev pub last_line : Ending → List ℕ
last_line Done = codes "status=0\n"
last_line Memory = codes "status=1 memory\n"
last_line Usage = codes "status=2 usage\n"
last_line (Vdev at) = codes "status=2 vdev at=" ++ decimal at ++ codes "\n"
last_line (Capture at cause) = codes "status=3 capture at=" ++ decimal at ++ codes " cause=" ++ cause_name cause ++ codes "\n"
last_line (Sessions line kind) = codes "status=4 sessions line=" ++ decimal line ++ codes " kind=" ++ decimal kind ++ codes "\n"
last_line ReadFault = codes "status=5 read fault\n"
last_line WriteFault = codes "status=6 write fault\n"
last_line Stalled = codes "status=7 stalled\n"
last_line (TooLarge value) = codes "status=8 too large value=" ++ decimal value ++ codes "\n"

abbrev pub first_line : Counts → List ℕ
first_line c = codes "packets=" ++ decimal c.packets ++ codes " success=" ++ decimal c.success ++ codes " auth_failed=" ++ decimal c.auth_failed
    ++ codes " invalid_args=" ++ decimal c.invalid_args ++ codes " short=" ++ decimal c.short ++ codes " passed=" ++ decimal c.passed ++ codes "\n"

-- one line for each device, from number n on
abbrev pub device_lines : ℕ → List ℕ → List ℕ
device_lines n [] = []
device_lines n (m ∷ ms) = (codes "device " ++ decimal n ++ codes " operations=" ++ decimal m ++ codes "\n") ++ device_lines (n + 1) ms

-- whether packets and devices are counted in the report of a run that read the header
abbrev pub is_counted : Ending → Bool
is_counted Done = true
is_counted (Capture at cause) = true
is_counted Stalled = true
is_counted (TooLarge value) = true
is_counted _ = false

-- a line for the digest, where there is one
abbrev pub digest_line : Option (List ℕ) → List ℕ
digest_line None = []
digest_line (Some digest) = codes "sha256=" ++ encode_lower digest ++ codes "\n"

abbrev pub listed : Outcome → List ℕ → Option (List ℕ) → List ℕ
listed o devices digest = if o.header && is_counted o.ending then first_line o.counts ++ device_lines 0 devices ++ digest_line digest else []

abbrev pub report_of : Outcome → List ℕ → Option (List ℕ) → List ℕ
report_of o devices digest = listed o devices digest ++ last_line o.ending
