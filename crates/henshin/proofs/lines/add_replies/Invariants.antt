use Rattle.std.proofs.Common.{◌≡◌, ◌++◌, map, drop, string_bytes}
use Rattle.henshin.specs.ReportText.{reply_data}
use Rattle.hs_json_model.specs.Written.{lines_of}
use Rattle.henshin.proofs.lines.add_replies.Given as goal

-- the text so far, with the lines of the replies that are left, is the whole
abbrev pub invariant-loop-reply : goal.invariant-loop-reply
invariant-loop-reply l =
    string_bytes l.text ++ lines_of (map reply_data (drop l.reply-index l.replies)) ≡ string_bytes l.fn.text ++ lines_of (map reply_data l.replies)
