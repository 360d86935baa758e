-- The numbers of documents 01 and 02, each once.
use Rattle.std.specs.Prelude.{ℕ, ◌+◌, ◌*◌}
use Rattle.bmap.specs.declared.limits.Limits.{Limits}

-- "number of agents, 1 to 16"
abbrev pub most_agents : ℕ
most_agents = 16

-- "At most 1 A1, 32 A2, 64 A3, 64 A4 and 128 laws"
abbrev pub most_fluents : ℕ
most_fluents = 32

abbrev pub most_knowledge : ℕ
most_knowledge = 64

abbrev pub most_entries : ℕ
most_entries = 64

abbrev pub most_laws : ℕ
most_laws = 128

-- "a count byte n (0 to 120)"
abbrev pub most_payload : ℕ
most_payload = 120

-- kind, count and payload, at most
abbrev pub frame_size : ℕ
frame_size = most_payload + 2

-- "nested at most 16 deep (the outermost is depth 1)"
abbrev pub most_depth : ℕ
most_depth = 16

-- "lag (0 to 63)"
abbrev pub most_lag : ℕ
most_lag = 63

-- "−1,000,000,000 to 1,000,000,000"
abbrev pub most_value : ℕ
most_value = 1_000_000_000

-- K6: "the largest change allowed in one step, 1 to 32,767"
abbrev pub most_change : ℕ
most_change = 32_767

-- "a sheet of at most 64 steps"
abbrev pub most_steps : ℕ
most_steps = 64

-- "200 edits stand"
abbrev pub most_edits : ℕ
most_edits = 200

-- "a store of at least 36,000 bytes"
abbrev pub store_size : ℕ
store_size = 36_000

-- "Sheet reader (buffer at least 1,024)"
abbrev pub sheet_size : ℕ
sheet_size = 1_024

-- "at least 2,080 signed 16-bit numbers"
abbrev pub levels_size : ℕ
levels_size = 2_080

-- "the program's input is over 60,000 bytes"; K1: "the domain's text and … each sheet's text by itself"
abbrev pub most_input : ℕ
most_input = 60_000

-- K7: "a store of at least 16,000 bytes"
abbrev pub supplement_size : ℕ
supplement_size = 16_000

-- K1: "19 for a 41st sheet"
abbrev pub most_sheets : ℕ
most_sheets = 40

-- "a line of exactly B000 and LF": its characters
abbrev pub begins_size : ℕ
begins_size = 5

-- the bytes of an input that decide its report: the longest text of a domain, the most sheets, each with its B000 line and the longest
-- text, and one B000 line more
abbrev pub report_input : ℕ
report_input = most_input + most_sheets * (begins_size + most_input) + begins_size

abbrev pub limits_of : Limits
limits_of = record {
  agents = most_agents;
  fluents = most_fluents;
  knowledge = most_knowledge;
  entries = most_entries;
  laws = most_laws;
  steps = most_steps;
  sheet = sheet_size;
  edits = most_edits;
  payload = most_payload;
  depth = most_depth;
  lag = most_lag;
  change = most_change;
  store = store_size;
  levels = levels_size;
  input = most_input;
  supplement = supplement_size;
  sheets = most_sheets;
  report = report_input;
}
