-- To be believed. The definition is in `expr_syntax`, so that the law of agreeing worlds of `eval_face` can cite it.
pub use Rattle.expr_syntax.specs.Mentioned
