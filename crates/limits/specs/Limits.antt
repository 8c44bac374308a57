-- Limits, by name: document 01, 'The sheet and the list'.
use Rattle.std.specs.Prelude.{ℕ, ◌+◌, ◌-◌, ◌*◌, ◌/◌}

-- check 1: 'fewer than 16,384 32-bit words' of lent work
abbrev pub work_words : ℕ
work_words = 16384

-- check 2: 'over 16,384 bytes'
abbrev pub file_limit : ℕ
file_limit = 16384

-- 'flags (1 sharing, 2 fused)'; T-02: 'the header's flag 4 is `stable_math`': other bits begin here
abbrev pub flags_end : ℕ
flags_end = 8

-- 'statement count n, at most 256'
abbrev pub statement_limit : ℕ
statement_limit = 256

-- the tags are 1 to 7; T-02: 'Add tag 8 ... and tag 9'
abbrev pub last_tag : ℕ
last_tag = 9

-- T-02: '11, power −2,147,483,648 under tag 9', as its word
abbrev pub lowest_power : ℕ
lowest_power = 0x8000_0000

-- check 6: 'depth over 64, or more than 1,024 nodes in the sheet'
abbrev pub depth_limit : ℕ
depth_limit = 64

abbrev pub node_limit : ℕ
node_limit = 1024

-- levels below a root
abbrev pub side_limit : ℕ
side_limit = depth_limit - 1

-- check 9: 'first + step × T over 65,536'
abbrev pub index_end : ℕ
index_end = 65536

-- rows of statements: the sheet's own, and one for each node's mark; and their words
abbrev pub row_limit : ℕ
row_limit = statement_limit + node_limit

abbrev pub rows_length : ℕ
rows_length = 3 * row_limit

-- temporaries: one for each node that sharing gave a text to, and one for each row
abbrev pub temporary_limit : ℕ
temporary_limit = node_limit + row_limit

-- operations of a node at most: those of the longest power under a modulus, 2^31 − 1
abbrev pub ops_per_node : ℕ
ops_per_node = 301

-- bytes of a printed line at most, and of an answer's text: its first line, and a line for each six words of output
abbrev pub line_limit : ℕ
line_limit = 128

abbrev pub text_limit : ℕ
text_limit = line_limit * (work_words / 6 + 1)
