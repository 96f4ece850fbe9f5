pub mod DiffMore
pub mod EscapedMore
pub mod PastLimitMore
pub mod ShortenedMore
