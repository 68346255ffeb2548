mod PlainTexts
mod PaddedQuestions
