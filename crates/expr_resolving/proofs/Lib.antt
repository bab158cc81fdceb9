mod MarkLaws
mod ResolvingLaws
mod BoxingLaws
mod CountLaws
