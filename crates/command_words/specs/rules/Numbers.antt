-- The number of a request line.
use Rattle.std.specs.Prelude.{ℕ, ◌≤◌, ◌<◌, ◌^◌}
use Rattle.command_words.specs.declared.lines.request.Request.{Request}
use Rattle.command_words.specs.declared.lines.request.Request.TheVariants as request

-- the number of a request
abbrev pub request_number : Request → ℕ
request_number (request.Text number text) = number
request_number (request.End number) = number

-- numbers begin at 1
abbrev pub IsNumberedRequest : Request → Type 0
IsNumberedRequest r = (1 ≤ request_number r) × (request_number r < 2 ^ 63)
