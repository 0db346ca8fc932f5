mod QuestionLaws
